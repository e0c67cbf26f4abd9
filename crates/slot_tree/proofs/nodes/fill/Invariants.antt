use Rattle.std.proofs.Common.{◌≡◌, ℕ, ◌+◌, ◌<◌, length, slice_index, vec_capacity}
use Rattle.slot_tree.specs.Slots.{slot_at}
use Rattle.slot_tree.specs.Nodes.{key}
use Rattle.slot_tree.proofs.nodes.fill.Given as goal

abbrev pub invariant-loop-i : goal.invariant-loop-i
invariant-loop-i l = record {
  long : length l.nodes.items ≡ length l.fn.nodes.items;
  room : vec_capacity l.nodes ≡ vec_capacity l.fn.nodes;
  keys : (s : ℕ) → s < l.i → slice_index l.nodes.items (length l.slots + s) ≡ key (slot_at l.slots s);
}
