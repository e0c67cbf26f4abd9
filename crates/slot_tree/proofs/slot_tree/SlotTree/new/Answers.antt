use Rattle.std.proofs.Common.{arith}
use Rattle.slot_tree.proofs.RestLemmas.{kept-none}
use Rattle.slot_tree.proofs.slot_tree.SlotTree.new.Goals as goal

pub invariant_of-result : goal.invariant_of-result
invariant_of-result c =
    rw (c.in_ok-with_capacity.ensures.items, c.in_ok-with_capacity-2.ensures.items) (kept-none c.args.k _ _ _ c.requires
    (omega (arith, c.slot_count-many.ensures, c.in_ok-with_capacity.ensures.capacity)) (omega (arith, c.slot_count-many.ensures, c.in_ok-with_capacity-2.ensures.capacity)) c.none.ensures)
