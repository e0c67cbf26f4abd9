use Rattle.std.proofs.Common.{◌≡◌, ◌≤◌}
use Rattle.kept_desk.specs.Guarded.{PassesOver}
use Rattle.kept_desk.proofs.guarded.GuardedCallerLine.next.Given as goal

-- some lines were passed over, without a fault
abbrev pub invariant-loop : goal.invariant-loop
invariant-loop g l = record {
  ahead : l.self.ahead ≡ l.fn.self.ahead;
  faults : g.L.CallerLine.faults l.self.line ≡ g.L.CallerLine.faults l.fn.self.line;
  asked : g.C.Clock.asked l.fn.self.clock ≤ g.C.Clock.asked l.self.clock;
  over : PassesOver l.fn.self.ahead (g.L.CallerLine.calls l.fn.self.line) (g.L.CallerLine.calls l.self.line);
}
