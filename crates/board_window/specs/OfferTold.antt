-- What an entry tells of a vacancy's offer.
use Rattle.std.specs.Prelude.{ℕ, Option, None, Some}
use Rattle.std.specs.Option.{option_map, option_or, option_and_then}
use Rattle.desk_model.specs.declared.offer.Offer.{Offer}
use Rattle.desk_model.specs.statements.Entry.{EntryValue}
use Rattle.desk_model.specs.histories.History.{said}
use Rattle.desk_model.specs.offers.Offers.{asks_for, offer_in, settles}
use Rattle.board_window.specs.declared.offer_told.OfferTold.{OfferTold}

-- the vacancy has an open offer from this board
abbrev pub offered_by : Offer → ℕ → OfferTold
offered_by offer v = record { vac = v; from = Some offer.board }

-- and has none
abbrev pub ended_for : ℕ → OfferTold
ended_for v = record { vac = v; from = None }

-- the offer that the entry makes
abbrev pub opened_by : EntryValue → Option OfferTold
opened_by e = option_and_then (λ offer. option_map (offered_by offer) (asks_for e.stated.cmd)) (offer_in e.moment e.reply)

-- else the one that it ends
abbrev pub told : EntryValue → Option OfferTold
told e = option_or (opened_by e) (option_map ended_for (said settles e))
