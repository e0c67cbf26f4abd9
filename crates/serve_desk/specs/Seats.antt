-- What the calls of a session make of its seat.
use Rattle.std.specs.Prelude.{◌≡◌, ◌+◌, ◌<◌, List, ◌++◌, length}
use mathlib.Core.List.{IsPrefix}
use Rattle.desk_model.specs.statements.Entry.{EntryValue}
use Rattle.desk_model.specs.histories.History.{history_of}
use Rattle.desk_model.specs.histories.Legal.{IsLegal}
use Rattle.desk_model.specs.statements.Opening.{OpeningValue}
use Rattle.turn_gate.specs.Seats.{SeatValue}
use Rattle.turn_gate.specs.Told.{own}

-- a seat after the calls that these entries are of, at a desk that was opened so: they are its own, behind those that it knew; and
-- what it knows now is a legal history that begins with what it knew
pub record Made (o : OpeningValue) (seat later : SeatValue) (entries : List EntryValue) : Type 0 where
  pub number : later.number ≡ seat.number
  pub calls : later.calls ≡ seat.calls + length entries
  pub own_calls : own later.known seat.number ≡ own seat.known seat.number ++ entries
  pub begins : IsPrefix seat.known later.known
  pub legal : 0 < length entries → IsLegal (history_of o later.known)
  pub none : length entries ≡ 0 → later ≡ seat
