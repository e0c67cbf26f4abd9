use Rattle.std.proofs.Common.{◌≡◌, ℕ, ◌<◌, false}
use Rattle.slot_tree.specs.Slots.{slot_at}
use Rattle.pool_board.specs.Members.{holds}
use Rattle.pool_board.proofs.slots.find.Given as goal

abbrev pub invariant-loop-slot : goal.invariant-loop-slot
invariant-loop-slot l = (s : ℕ) → s < l.slot → holds l.person (slot_at l.tree s) ≡ false
