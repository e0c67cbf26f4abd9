use Rattle.std.proofs.Common.{◌+◌, ◌*◌, ◌^◌, ◌≤◌}
use Rattle.slot_tree.proofs.LeastLemmas.{Descent}
use Rattle.slot_tree.proofs.search.descend.Given as goal

abbrev pub invariant-loop-left : goal.invariant-loop-left
invariant-loop-left g l = record {
  comes : Descent l.nodes (l.at * 2 ^ l.height) ((l.at + 1) * 2 ^ l.height) l.m l.i l.left;
  cost : l.steps + l.left ≤ l.fn.steps + l.height;
  counted : l.fn.steps ≤ l.steps;
}

abbrev pub decreases-loop-left : goal.decreases-loop-left
decreases-loop-left g l = l.left
