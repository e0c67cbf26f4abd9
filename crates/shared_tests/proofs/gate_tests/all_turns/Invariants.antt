use Rattle.turn_gate.specs.Seats.{IsSeatOf}
use Rattle.shared_tests.proofs.gate_tests.all_turns.Given as goal

abbrev pub invariant-loop : goal.invariant-loop
invariant-loop g l = IsSeatOf l.gate l.seat
