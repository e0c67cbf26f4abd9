-- What a call of the gate makes of a seat, a turn and the book.
use Rattle.std.specs.Prelude.{◌≡◌, ◌+◌, ◌<◌, ◌≤◌, List, [], ◌∷◌, ◌++◌, length, Option, Some}
use mathlib.Core.List.{IsPrefix}
use mathlib.Core.Option.{some}
use Rattle.atomic_table.specs.Table.{State}
use Rattle.desk_model.specs.statements.Entry.{EntryValue}
use Rattle.desk_model.specs.declared.limits.TheConstants.{LAST_CALLER}
use Rattle.turn_gate.specs.declared.start.Start.{Start}
use Rattle.turn_gate.specs.declared.told.Told.{Told}
use Rattle.turn_gate.specs.declared.view.View.{View}
use Rattle.turn_gate.specs.Told.{own, end, IsNumber, IsBookOf}
use Rattle.turn_gate.specs.Gate.{Gated}
use Rattle.turn_gate.specs.Seats.{SeatValue, TurnValue}

-- what a seat knows begins the book's list, which has of the seat's number just the entries that the seat knows
pub record Knows (entries : List EntryValue) (seat : SeatValue) : Type 0 where
  pub known : IsPrefix seat.known entries
  pub own : own entries seat.number ≡ own seat.known seat.number

-- the turn that a seat took, and the book
pub record Took (seat : SeatValue) (turn : TurnValue) (book : Told) : Type 0 where
  pub table : turn.table ≡ seat.table
  pub start : turn.start ≡ seat.start
  pub number : turn.number ≡ seat.number
  pub calls : turn.calls ≡ seat.calls + 1
  pub taken : book ≡ turn.taken
  pub place : length book.entries ≡ turn.place
  pub within : turn.place < end seat.start
  pub named : IsNumber seat.start.seats turn.number
  pub caller : turn.number ≤ LAST_CALLER
  pub of_gate : IsBookOf seat.start book
  pub knows : Knows book.entries seat
  pub sure : seat.sure ≤ book.sure

-- the book may be given back: it has the list that it was taken with, and one entry more, of this seat's number; and no fewer are sure
pub record MayGive (turn : TurnValue) (book : Told) : Type 0 where
  pub entry : EntryValue
  pub more : book.entries ≡ turn.taken.entries ++ entry ∷ []
  pub caller : entry.caller ≡ turn.number
  pub opening : book.opening ≡ turn.start.book.opening
  pub room : book.room ≡ turn.start.book.room
  pub wall : book.wall ≡ turn.start.book.wall
  pub sure : turn.taken.sure ≤ book.sure

-- the seat after its turn: it knows the book's list, and how much of it is sure
pub record Gave (turn : TurnValue) (book : Told) (seat : SeatValue) : Type 0 where
  pub table : seat.table ≡ turn.table
  pub start : seat.start ≡ turn.start
  pub number : seat.number ≡ turn.number
  pub calls : seat.calls ≡ turn.calls
  pub known : seat.known ≡ book.entries
  pub sure : seat.sure ≡ book.sure

-- the gate's rule holds at the end, with this book at home
pub record IsLast {B : Type 0} (tell : B → Told) (k : Start) (book : B) : Type 0 where
  pub state : State (Option B) View
  pub rule : Gated tell k state
  pub home : state.homes ≡ some (Some book) ∷ []
