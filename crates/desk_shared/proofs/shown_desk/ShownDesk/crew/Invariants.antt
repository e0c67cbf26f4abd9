use Rattle.std.specs.Prelude.{◌≡◌, ℕ, ◌+◌, ◌-◌, ◌≤◌, Bool, true, length, IfSome, IfNone}
use Rattle.turn_gate.specs.Seats.{GateValue, SeatValue, IsSeatOf}
use Rattle.board_window.specs.declared.showing.Showing.{Showing}
use Rattle.std.specs.declared.option.Option.{Option}
use Rattle.crew_call.specs.CrewCalls.{CrewValue}
use Rattle.desk_shared.specs.Crews.{MakesCalls}
use Rattle.desk_shared.specs.Kept.{KnowsOnlySure}
use Rattle.desk_shared.specs.Shown.{ShowsTo}
use Rattle.desk_shared.proofs.shown_desk.ShownDesk.crew.Given as goal

-- the calls so far are those of the crew call, and what is shown is up to the last of them; over a book that tells each entry as kept all are
pub record GoesOn (always : Bool) (desk : GateValue) (seat now : SeatValue) (t v w : ℕ) (crew : CrewValue) (shown : Option Showing) (kept : Bool) : Type 0 where
  pub sits : IsSeatOf desk now
  pub minute : crew.minute ≡ t
  pub first : crew.first ≡ v
  pub second : crew.second ≡ w
  pub made : MakesCalls desk.start.book.opening seat crew.heard now
  pub calls : now.calls ≡ seat.calls + length crew.heard
  pub shows : IfSome shown (λ showing. ShowsTo desk showing.note showing.behind now.known)
  pub begun : always ≡ true → IfNone shown (length crew.heard ≡ 0)
  pub all : always ≡ true → kept ≡ true
  pub sure : IfSome shown (λ showing. KnowsOnlySure now)
  pub no_fewer : seat.sure ≤ now.sure

abbrev pub invariant-loop-stated : goal.invariant-loop-stated
invariant-loop-stated g l = GoesOn g.B.Steps.always l.self l.fn.seat l.seat l.fn.minute l.fn.first l.fn.second l.crew l.shown l.kept × (l.fn.seat.calls + 3 ≤ l.self.start.quota)

abbrev pub decreases-loop-stated : goal.decreases-loop-stated
decreases-loop-stated g l = 3 - length l.crew.heard
