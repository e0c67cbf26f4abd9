use Rattle.std.proofs.Common.{◌≡◌, ℕ, ◌*◌, ◌<◌, nat_lt, length}
use Rattle.slot_tree.specs.Words.{has_bit}
use Rattle.slot_tree.proofs.filled_slots.FilledSlots.mark_front.Given as goal

abbrev pub invariant-loop-w : goal.invariant-loop-w
invariant-loop-w l = record {
  long : length l.self.words ≡ 16;
  front : (i : ℕ) → i < 64 * l.w → has_bit l.self.words i ≡ nat_lt i l.many;
}
