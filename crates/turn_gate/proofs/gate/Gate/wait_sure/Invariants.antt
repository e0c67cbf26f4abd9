use Rattle.std.proofs.Common.{◌≡◌, ◌≤◌}
use Rattle.turn_gate.specs.Seats.{IsSeatOf}
use Rattle.turn_gate.proofs.gate.Gate.wait_sure.Given as goal

-- the seat is the same, and knows no fewer as sure
abbrev pub invariant-loop : goal.invariant-loop
invariant-loop g l = record {
  sits : IsSeatOf l.self l.seat;
  same : l.seat ≡ record l.fn.seat { sure = l.seat.sure };
  no_fewer : l.fn.seat.sure ≤ l.seat.sure;
}
