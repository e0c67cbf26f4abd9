use Rattle.turn_gate.specs.Seats.{IsSeatOf}
use Rattle.desk_shared.specs.Shown.{IsViewOf}
use Rattle.shared_tests.proofs.window_tests.first_otherwise.Given as goal

abbrev pub invariant-loop-number : goal.invariant-loop-number
invariant-loop-number g l = IsSeatOf l.desk l.seat × IsViewOf l.desk l.view
