-- Offers: which are open, to whom, and until when.
use Rattle.std.specs.Prelude.{ℕ, ◌+◌, Bool, false, nat_eq, Option, None, Some, unwrap_or, if◌then◌else◌}
use Rattle.std.specs.Option.{option_map, option_or}
use Rattle.std.specs.List.{find}
use Rattle.desk_model.specs.declared.command.Cmd.{Cmd}
use Rattle.desk_model.specs.declared.command.Cmd.TheVariants as cmd
use Rattle.desk_model.specs.declared.reply.Reply.{Reply}
use Rattle.desk_model.specs.declared.reply.Reply.TheVariants as reply
use Rattle.desk_model.specs.declared.offer.Offer.{Offer}
use Rattle.desk_model.specs.statements.Opening.{OpeningValue}
use Rattle.desk_model.specs.statements.Entry.{EntryValue}
use Rattle.desk_model.specs.histories.History.{History, said, last_of}
use Rattle.desk_model.specs.histories.Register.{vacancies}

-- it is this vacancy
abbrev pub is_of : ℕ → Option ℕ → Bool
is_of v None = false
is_of v (Some vac) = nat_eq vac v

-- the vacancy that a command asks to be offered
abbrev pub asks_for : Cmd → Option ℕ
asks_for (cmd.Next vac) = Some vac
asks_for (cmd.Offer vac person) = Some vac
asks_for other = None

-- the offer that a reply makes at this moment
abbrev pub offer_in : ℕ → Reply → Option Offer
offer_in moment (reply.Offered person board position) = Some (record { person = person; board = board; made = moment })
offer_in moment other = None

-- the vacancy whose open offer a command ends: it is accepted, declined, not answered or withdrawn, or the vacancy is annulled
abbrev pub settles : Cmd → Option ℕ
settles (cmd.Accept vac person) = Some vac
settles (cmd.Decline vac person) = Some vac
settles (cmd.NoAnswer vac person) = Some vac
settles (cmd.Withdraw vac person) = Some vac
settles (cmd.Annul vac) = Some vac
settles other = None

-- what an entry says of the offer of this vacancy, Some where it says anything: what is open since. One that makes an offer opens
-- it, and one that settles it leaves none open
abbrev pub opens : ℕ → EntryValue → Option (Option Offer)
opens v e = if is_of v (asks_for e.stated.cmd) then option_map (λ offer. Some offer) (offer_in e.moment e.reply) else None

abbrev pub ends : ℕ → EntryValue → Option (Option Offer)
ends v e = if is_of v (said settles e) then Some None else None

abbrev pub offer_said : ℕ → EntryValue → Option (Option Offer)
offer_said v e = option_or (opens v e) (ends v e)

-- the open offer of a vacancy: as the last entry says that says anything of it
abbrev pub open_offer : History → ℕ → Option Offer
open_offer h v = unwrap_or (last_of (offer_said v) h.entries) None

-- that offer is to this person
abbrev pub is_to : ℕ → Option Offer → Bool
is_to p None = false
is_to p (Some offer) = nat_eq offer.person p

-- the vacancy that an entry offers to this person
abbrev pub offered_to : ℕ → EntryValue → Option ℕ
offered_to p e = if is_to p (offer_in e.moment e.reply) then asks_for e.stated.cmd else None

-- the vacancy that is on offer to the person
abbrev pub on_offer : History → ℕ → Option ℕ
on_offer h p = find (λ v. is_to p (open_offer h v)) (vacancies h)

-- until when it may be answered: for so many minutes from when it was made
abbrev pub deadline : OpeningValue → Offer → ℕ
deadline o offer = offer.made + o.answer
