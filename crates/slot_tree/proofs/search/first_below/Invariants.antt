use Rattle.std.proofs.Common.{◌+◌, ◌≤◌, ◌<◌}
use Rattle.slot_tree.proofs.LeastLemmas.{Climb}
use Rattle.slot_tree.proofs.search.first_below.Given as goal

abbrev pub invariant-loop-t : goal.invariant-loop-t
invariant-loop-t g l = record {
  comes : Climb l.nodes l.height l.from l.m l.i l.t;
  cost : l.steps ≤ l.fn.steps + 1 + l.t;
  some : l.fn.steps < l.steps;
}
