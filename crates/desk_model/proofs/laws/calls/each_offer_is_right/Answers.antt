use Rattle.desk_model.specs.laws.Denials.{OffersRightly}
use Rattle.desk_model.proofs.LegalLemmas.{each-step}
use Rattle.desk_model.proofs.OfferLemmas.{offers-rightly}
use Rattle.desk_model.proofs.laws.calls.each_offer_is_right.Goals as goal

pub returns : goal.returns
returns c h legal = each-step OffersRightly (offers-rightly c.no_bar_where_the_law_is_kept.ensures c.who_is_rested_was_off_ten_hours.ensures) h legal
