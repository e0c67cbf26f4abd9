use Rattle.std.proofs.Common.{◌≡◌, true, Some, is_some, set, sym, ap, subst, ◌∙◌, arith}
use Rattle.slot_tree.specs.declared.slot.Slot.{Slot}
use Rattle.slot_tree.specs.Slots.{slot_at, filled_end}
use Rattle.slot_tree.specs.Rest.{all_slots}
use Rattle.slot_tree.proofs.SlotLemmas.{slot_at-within}
use Rattle.slot_tree.proofs.EndLemmas.{filled_end-kept}
use Rattle.slot_tree.proofs.RestLemmas.{kept-written}
use Rattle.slot_tree.proofs.slot_tree.SlotTree.set.Goals as goal

pub invariant_of-self : goal.invariant_of-self
invariant_of-self c =
    let slots = all_slots c.self.inside.height c.self.inside.slots.items in
    let x : Slot = record { person = c.in-Some.held.person; ready = c.args.ready } in
    let filled : is_some (slot_at slots c.args.slot) ≡ true = subst (λ xs. is_some (slot_at xs c.args.slot) ≡ true) (sym c.self.view_is) c.requires in
    let ends : c.self.inside.next ≡ filled_end (set c.keep_all.new.slots.items c.args.slot (Some x)) =
    c.self.invariant.stand.ends ∙ sym (filled_end-kept slots c.args.slot x (slot_at-within slots c.args.slot filled) filled)
    ∙ ap (λ xs. filled_end (set xs c.args.slot (Some x))) (sym c.keep_all.ensures.slots) in
    kept-written _ _ _ _ _ _ _ _ _ _ _ _ _ _ _ _ _ c.self.invariant c.keep_all.ensures.slots c.keep_all.ensures.nodes
    (omega (arith, c.keep_all.ensures.slots_room, c.put.ensures.slots_room)) (omega (arith, c.keep_all.ensures.nodes_room, c.put.ensures.nodes_room))
    c.put.ensures.slots c.put.ensures.length c.put.ensures.least c.put.ensures.keys ends c.put.ensures.told
