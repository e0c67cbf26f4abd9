use Rattle.turn_gate.specs.Seats.{IsSeatOf}
use Rattle.desk_shared.specs.Shown.{IsViewOf}
use Rattle.shared_tests.proofs.window_tests.count_late.Given as goal

abbrev pub invariant-loop-count : goal.invariant-loop-count
invariant-loop-count g l = IsSeatOf l.desk l.seat × IsViewOf l.desk l.view
