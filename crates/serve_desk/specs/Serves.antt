-- What a session makes of its line and of its seat.
use Rattle.std.specs.Prelude.{◌≡◌, ℕ, List, length}
use Rattle.desk_model.specs.statements.Entry.{EntryValue}
use Rattle.desk_model.specs.statements.Opening.{OpeningValue}
use Rattle.turn_gate.specs.Seats.{SeatValue}
use Rattle.caller_lines.specs.LineCalls.{LineCall}
use Rattle.serve_desk.specs.declared.why.Why.{Why}
use Rattle.serve_desk.specs.Told.{with_all, LineValue}
use Rattle.serve_desk.specs.Session.{Session}
use Rattle.serve_desk.specs.Seats.{Made}

-- a line and a seat after a session, at a desk that was opened so: the calls of the line in it, in their order, and the entries that
-- came of them, so many as were taken
pub record Serves (o : OpeningValue) (left : ℕ) (line later : LineValue) (seat after : SeatValue) (why : Why) (taken : ℕ) : Type 0 where
  pub calls : List LineCall
  pub entries : List EntryValue
  pub session : Session left calls entries why
  pub told : later.calls ≡ with_all line.calls calls
  pub made : Made o seat after entries
  pub counted : taken ≡ length entries
