use Rattle.turn_gate.specs.Seats.{IsSeatOf}
use Rattle.desk_shared.specs.Shown.{IsViewOf}
use Rattle.shared_tests.proofs.window_tests.moves.first_unlike.Given as goal

abbrev pub invariant-loop-seen : goal.invariant-loop-seen
invariant-loop-seen g l =
    (goal.iterator-loop-seen g).can_next l.seen-iterator ×
    (goal.iterator-loop-seen g).is_finite l.seen-iterator ×
    IsSeatOf l.desk l.seat × IsViewOf l.desk l.view
