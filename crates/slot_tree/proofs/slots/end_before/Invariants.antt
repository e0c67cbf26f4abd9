use Rattle.std.proofs.Common.{◌≡◌, ℕ, ◌≤◌, None, length}
use Rattle.slot_tree.specs.Slots.{slot_at}
use Rattle.slot_tree.proofs.slots.end_before.Given as goal

abbrev pub invariant-loop-end : goal.invariant-loop-end
invariant-loop-end l = record {
  within : l.end ≤ length l.slots;
  after : (s : ℕ) → l.end ≤ s → slot_at l.slots s ≡ None;
}

abbrev pub decreases-loop-end : goal.decreases-loop-end
decreases-loop-end l = l.end
