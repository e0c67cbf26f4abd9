use Rattle.std.proofs.Common.{◌≡◌, ◌≢◌, ℕ, ◌*◌, ◌/◌, ◌≤◌, length, slice_index, vec_capacity}
use Rattle.slot_tree.proofs.LeastLemmas.{AreLeastBut}
use Rattle.slot_tree.proofs.nodes.write.Given as goal

-- all nodes have the lesser number but that above the one that was written last
abbrev pub invariant-loop-i : goal.invariant-loop-i
invariant-loop-i l = record {
  long : length l.nodes.items ≡ length l.fn.nodes.items;
  room : vec_capacity l.nodes ≡ vec_capacity l.fn.nodes;
  low : 1 ≤ l.i;
  high : l.i ≤ l.at;
  least : AreLeastBut l.nodes.items (l.i / 2);
  written : slice_index l.nodes.items l.at ≡ l.number;
  others : (n : ℕ) → length l.fn.nodes.items ≤ 2 * n → n ≢ l.at → slice_index l.nodes.items n ≡ slice_index l.fn.nodes.items n;
}

abbrev pub decreases-loop-i : goal.decreases-loop-i
decreases-loop-i l = l.i
