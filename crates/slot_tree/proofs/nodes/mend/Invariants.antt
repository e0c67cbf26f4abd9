use Rattle.std.proofs.Common.{◌≡◌, ℕ, ◌+◌, ◌*◌, ◌≤◌, ◌<◌, length, slice_index, vec_capacity}
use Rattle.slot_tree.specs.Nodes.{IsLesser}
use Rattle.slot_tree.proofs.nodes.mend.Given as goal

-- the nodes from one on have the lesser number
abbrev pub invariant-loop-i : goal.invariant-loop-i
invariant-loop-i l = record {
  long : length l.nodes.items ≡ length l.fn.nodes.items;
  room : vec_capacity l.nodes ≡ vec_capacity l.fn.nodes;
  high : 2 * l.i ≤ length l.nodes.items;
  least : (n : ℕ) → 1 ≤ n → l.i ≤ n → 2 * n + 1 < length l.nodes.items → IsLesser l.nodes.items n;
  lowest : (n : ℕ) → length l.fn.nodes.items ≤ 2 * n → slice_index l.nodes.items n ≡ slice_index l.fn.nodes.items n;
}

abbrev pub decreases-loop-i : goal.decreases-loop-i
decreases-loop-i l = l.i
