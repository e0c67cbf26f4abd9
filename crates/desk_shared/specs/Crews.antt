-- What a crew call makes of the seat that makes it.
use Rattle.std.specs.Prelude.{◌≡◌, ℕ, ◌+◌, List, [], ◌∷◌, ◌++◌, length}
use mathlib.Core.List.{IsPrefix}
use Rattle.crew_call.specs.declared.crew_outcome.CrewOutcome.{CrewOutcome}
use Rattle.crew_call.specs.CrewCalls.{CrewCall}
use Rattle.crew_call.specs.Outcomes.{StandIn, Says}
use Rattle.desk_model.specs.statements.Entry.{EntryValue}
use Rattle.desk_model.specs.histories.History.{history_of}
use Rattle.desk_model.specs.histories.Legal.{IsLegal}
use Rattle.desk_model.specs.statements.Opening.{OpeningValue}
use Rattle.turn_gate.specs.Seats.{SeatValue}
use Rattle.turn_gate.specs.Told.{own}
use Rattle.desk_shared.specs.Calls.{Calls}
use Rattle.desk_shared.specs.declared.receipt.Receipt.{Receipt}

abbrev pub receipt_of : ℕ → EntryValue → Receipt
receipt_of place entry = record { place = place; entry = entry }

-- the seat makes a call of which this is the entry
abbrev pub IsCall : OpeningValue → SeatValue → SeatValue → EntryValue → Type 0
IsCall o seat later e = (place : ℕ) × Calls o seat later e.stated (receipt_of place e)

-- it makes calls of which these are the entries, one after another
abbrev pub MakesCalls : OpeningValue → SeatValue → List EntryValue → SeatValue → Type 0
MakesCalls o seat [] later = later ≡ seat
MakesCalls o seat (e ∷ es) later = (between : SeatValue) × (IsCall o seat between e × MakesCalls o between es later)

-- so the entries are the seat's own behind those that it knew, and stand behind those in their order, others maybe before each; it knows
-- all up to the last of them
pub record HasCalled (seat later : SeatValue) (es : List EntryValue) : Type 0 where
  pub number : later.number ≡ seat.number
  pub calls : later.calls ≡ seat.calls + length es
  pub begins : IsPrefix seat.known later.known
  pub own_calls : own later.known seat.number ≡ own seat.known seat.number ++ es
  pub stand : StandIn seat.known es later.known

-- the seat after a crew call of the vacancies v and w at minute t, with these entries, which came to this, at a desk that was opened so
pub record CallsCrew (o : OpeningValue) (seat later : SeatValue) (t v w : ℕ) (es : List EntryValue) (told : CrewOutcome) : Type 0 where
  pub each : MakesCalls o seat es later
  pub called : HasCalled seat later es
  pub legal : IsLegal (history_of o later.known)
  pub call : CrewCall t v w es told
  pub says : Says o seat.known es later.known told
