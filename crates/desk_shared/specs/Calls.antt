-- What a call of a desk makes of the seat that makes it.
use Rattle.std.specs.Prelude.{◌≡◌, ◌+◌, List, [], ◌∷◌, ◌++◌, length}
use mathlib.Core.List.{IsPrefix}
use Rattle.desk_model.specs.statements.Entry.{EntryValue}
use Rattle.desk_model.specs.histories.History.{history_of}
use Rattle.desk_model.specs.histories.Legal.{IsLegal, next}
use Rattle.desk_model.specs.statements.Opening.{OpeningValue}
use Rattle.desk_model.specs.statements.Statement.{StatedValue}
use Rattle.turn_gate.specs.Seats.{SeatValue}
use Rattle.turn_gate.specs.Told.{own}
use Rattle.desk_shared.specs.declared.receipt.Receipt.{Receipt}

-- the seat after a call with this receipt, at a desk that was opened so: it has made one call more, and knows the entries before
-- the call's own, and that
pub record Calls (o : OpeningValue) (seat later : SeatValue) (s : StatedValue) (receipt : Receipt) : Type 0 where
  pub before : List EntryValue
  pub place : receipt.place ≡ length before
  pub entry : receipt.entry ≡ next (history_of o before) seat.number s
  pub known : later.known ≡ before ++ receipt.entry ∷ []
  -- what the seat knew begins the entries before, so the call's own is none that it knew
  pub knew : IsPrefix seat.known before
  -- and so what it knows then; of its own number it has the call's entry beside
  pub begins : IsPrefix seat.known later.known
  pub own_calls : own later.known seat.number ≡ own seat.known seat.number ++ receipt.entry ∷ []
  pub legal : IsLegal (history_of o later.known)
  pub number : later.number ≡ seat.number
  pub calls : later.calls ≡ seat.calls + 1
