-- What contracts see of a gate, a seat and a turn.
use Rattle.std.specs.Prelude.{◌≡◌, ℕ, zero, suc, ◌+◌, List, [], ◌∷◌}
use Rattle.atomic_table.specs.Seated.{TableId}
use Rattle.desk_model.specs.statements.Entry.{EntryValue}
use Rattle.turn_gate.specs.declared.note.Note.{Note}
use Rattle.turn_gate.specs.declared.phase.Phase.TheVariants.{Idle, Turn}
use Rattle.turn_gate.specs.declared.start.Start.{Start}
use Rattle.turn_gate.specs.declared.told.Told.{Told}
use Rattle.turn_gate.specs.declared.view.View.{View}
use Rattle.turn_gate.specs.Steps.{note_of, nothing}

-- which gate it is, and how it began
pub record GateValue : Type 0 where
  pub table : TableId
  pub start : Start

abbrev pub gate_of : TableId → Start → GateValue
gate_of table start = record { table = table; start = start }

-- of which gate the seat is, its number, the entries that it knows, how many turns it has had, and how many entries it knows as sure
pub record SeatValue : Type 0 where
  pub table : TableId
  pub start : Start
  pub number : ℕ
  pub known : List EntryValue
  pub calls : ℕ
  pub sure : ℕ

-- the same of a turn, with its place and the book as it was taken
pub record TurnValue : Type 0 where
  pub table : TableId
  pub start : Start
  pub number : ℕ
  pub calls : ℕ
  pub place : ℕ
  pub taken : Told

abbrev pub IsSeatOf : GateValue → SeatValue → Type 0
IsSeatOf gate seat = (seat.table ≡ gate.table) × (seat.start ≡ gate.start)

abbrev pub IsTurnOf : GateValue → TurnValue → Type 0
IsTurnOf gate turn = (turn.table ≡ gate.table) × (turn.start ≡ gate.start)

-- seats of a new gate: so many with rising numbers, each knows the starting book's list and what of it is sure, and has had no turn
abbrev pub new_seat : GateValue → ℕ → SeatValue
new_seat gate number = record { table = gate.table; start = gate.start; number = number; known = gate.start.book.entries; calls = 0; sure = gate.start.book.sure }

abbrev pub new_seats : GateValue → ℕ → ℕ → List SeatValue
new_seats gate number zero = []
new_seats gate number (suc count) = new_seat gate number ∷ new_seats gate (number + 1) count

-- the note of a seat
abbrev pub noted : SeatValue → Note
noted seat = note_of seat.number seat.known seat.sure

-- the view of a seat, and of a turn
abbrev pub seated : ℕ → List EntryValue → ℕ → ℕ → Start → View
seated number known sure calls start = record { notes = note_of number known sure ∷ []; calls = calls; phase = Idle; start = start }

abbrev pub turned : ℕ → List EntryValue → ℕ → ℕ → Start → ℕ → Told → View
turned number known sure calls start place taken = record { notes = note_of number known sure ∷ []; calls = calls; phase = Turn place taken; start = start }

-- what is known by the first note of a view, and how much of it as sure
abbrev pub known_in : List Note → List EntryValue
known_in [] = []
known_in (a ∷ others) = a.known

abbrev pub sure_in : List Note → ℕ
sure_in [] = 0
sure_in (a ∷ others) = a.sure

-- a turn's book as it was taken
abbrev pub taken_in : View → Told
taken_in v = elim v.phase [ Idle ↦ nothing | Turn place taken ↦ taken | _ ↦ nothing ]
