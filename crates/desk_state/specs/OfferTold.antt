-- Who declines by a command, and what an entry offers.
use Rattle.std.specs.Prelude.{ℕ, Option, None, Some, List}
use Rattle.std.specs.Option.{option_map}
use Rattle.desk_model.specs.declared.command.Cmd.{Cmd}
use Rattle.desk_model.specs.declared.command.Cmd.TheVariants as cmd
use Rattle.desk_model.specs.statements.Entry.{EntryValue}
use Rattle.desk_model.specs.offers.Offers.{offer_in}

-- the person who declines by a command
abbrev pub decliner : Cmd → Option ℕ
decliner (cmd.Decline vac person) = Some person
decliner other = None

-- the board from which an entry makes an offer, and the person to whom
abbrev pub offered_from : EntryValue → Option (List ℕ)
offered_from e = option_map (λ offer. offer.board) (offer_in e.moment e.reply)

abbrev pub offered_person : EntryValue → Option ℕ
offered_person e = option_map (λ offer. offer.person) (offer_in e.moment e.reply)
