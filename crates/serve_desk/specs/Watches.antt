-- What a session with looks makes of its line, its seat and its view.
use Rattle.std.specs.Prelude.{◌≡◌, ℕ, List, ◌++◌, length, take}
use mathlib.Core.List.{IsPrefix}
use Rattle.board_window.specs.Walls.{FrontValue}
use Rattle.caller_lines.specs.LineCalls.{LineCall}
use Rattle.desk_model.specs.statements.Entry.{EntryValue}
use Rattle.desk_model.specs.statements.Opening.{OpeningValue}
use Rattle.turn_gate.specs.Seats.{SeatValue}
use Rattle.turn_gate.specs.Told.{own}
use Rattle.serve_desk.specs.declared.why.Why.{Why}
use Rattle.serve_desk.specs.Seats.{Made}
use Rattle.serve_desk.specs.Sees.{Sees}
use Rattle.serve_desk.specs.Told.{with_all, LineValue}
use Rattle.serve_desk.specs.WatchFollows.{Act}
use Rattle.serve_desk.specs.WatchSession.{SessionWatched}

-- the entries that a seat knows as sure have those of its own that it knew before, and these behind them
abbrev pub HasSure : SeatValue → SeatValue → List EntryValue → Type 0
HasSure seat after put = IsPrefix (own seat.known seat.number ++ put) (own (take after.sure after.known) seat.number)

-- a line, a seat and a view after a session, at a desk that was opened so with windows that were made with so many entries: the calls of the line in
-- it, in their order, the entries that came of them, so many as were taken, and what each came to; and each entry of which a line may
-- have been put is sure
pub record Watches (o : OpeningValue) (left made_with : ℕ) (line later : LineValue) (seat after : SeatValue) (view seen : FrontValue) (why : Why) (taken : ℕ) : Type 0 where
  pub calls : List LineCall
  pub entries : List EntryValue
  pub acts : List Act
  pub put : List EntryValue
  pub session : SessionWatched left calls entries acts why put
  pub told : later.calls ≡ with_all line.calls calls
  pub made : Made o seat after entries
  pub counted : taken ≡ length entries
  pub sees : Sees o made_with view.entries seen.entries after.known seat.number (own seat.known seat.number) acts
  pub sure : HasSure seat after put
