use Rattle.std.proofs.Common.{◌≡◌, ◌+◌, ◌*◌}
use Rattle.slot_tree.specs.Words.{bits_before}
use Rattle.slot_tree.proofs.filled_slots.FilledSlots.nth.Given as goal

abbrev pub invariant-loop-w : goal.invariant-loop-w
invariant-loop-w l = bits_before l.self.words (64 * l.w) + l.left + 1 ≡ l.position
