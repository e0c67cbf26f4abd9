use Rattle.std.proofs.Common.{arith}
use Rattle.slot_tree.specs.Rest.{all_slots}
use Rattle.slot_tree.proofs.EndLemmas.{filled_end-few}
use Rattle.slot_tree.proofs.slot_tree.SlotTree.free.Goals as goal

pub overflow_sub-result : goal.overflow_sub-result
overflow_sub-result c =
    omega (arith, c.self.invariant.stand.ends, c.self.invariant.stand.many, filled_end-few (all_slots c.self.inside.height c.self.inside.slots.items), c.slot_count.ensures)
