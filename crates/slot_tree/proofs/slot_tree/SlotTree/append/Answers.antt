use Rattle.std.proofs.Common.{◌≡◌, ◌+◌, ◌<◌, Some, [], ◌∷◌, ◌++◌, length, set, sym, ap, subst, ◌∙◌, arith}
use Rattle.std.proofs.lemmas.List.{length-set}
use Rattle.slot_tree.specs.declared.slot.Slot.{Slot}
use Rattle.slot_tree.specs.Slots.{filled, filled_end}
use Rattle.slot_tree.specs.Rest.{all_slots}
use Rattle.slot_tree.proofs.EndLemmas.{filled_end-append, filled-append}
use Rattle.slot_tree.proofs.KeepLemmas.{size-few}
use Rattle.slot_tree.proofs.RestLemmas.{all_slots-whole, kept-written}
use Rattle.slot_tree.proofs.slot_tree.SlotTree.append.Goals as goal

pub put-requires-clause-few : goal.put-requires-clause-few
put-requires-clause-few c =
    let slots = all_slots c.self.inside.height c.self.inside.slots.items in
    let room : filled_end slots < length slots = subst (λ xs. filled_end xs < length xs) (sym c.self.view_is) c.requires in
    omega (arith, size-few c.self.inside.height c.self.invariant.stand.low, room, c.self.invariant.stand.ends, c.self.invariant.stand.many)

pub invariant_of-self : goal.invariant_of-self
invariant_of-self c =
    let slots = all_slots c.self.inside.height c.self.inside.slots.items in
    let x : Slot = record { person = c.args.person; ready = c.args.ready } in
    let room : filled_end slots < length slots = subst (λ xs. filled_end xs < length xs) (sym c.self.view_is) c.requires in
    let ends : c.self.inside.next + 1 ≡ filled_end (set c.keep_all.new.slots.items c.self.inside.next (Some x)) =
    ap (λ n. n + 1) c.self.invariant.stand.ends ∙ sym (filled_end-append slots x room)
    ∙ ap (λ n. filled_end (set slots n (Some x))) (sym c.self.invariant.stand.ends) ∙ ap (λ xs. filled_end (set xs c.self.inside.next (Some x))) (sym c.keep_all.ensures.slots) in
    kept-written _ _ _ _ _ _ _ _ _ _ _ _ _ _ _ _ _ c.self.invariant c.keep_all.ensures.slots c.keep_all.ensures.nodes
    (omega (arith, c.keep_all.ensures.slots_room, c.put.ensures.slots_room)) (omega (arith, c.keep_all.ensures.nodes_room, c.put.ensures.nodes_room))
    c.put.ensures.slots c.put.ensures.length c.put.ensures.least c.put.ensures.keys ends c.put.ensures.told

pub returns-clause-order : goal.returns-clause-order
returns-clause-order c =
    let slots = all_slots c.self.inside.height c.self.inside.slots.items in
    let x : Slot = record { person = c.args.person; ready = c.args.ready } in
    let room : filled_end slots < length slots = subst (λ xs. filled_end xs < length xs) (sym c.self.view_is) c.requires in
    let written : c.put.new.slots.items ≡ set slots (filled_end slots) (Some x) =
    c.put.ensures.slots ∙ ap (λ xs. set xs c.self.inside.next (Some x)) c.keep_all.ensures.slots ∙ ap (λ n. set slots n (Some x)) c.self.invariant.stand.ends in
    let whole = all_slots-whole c.self.inside.height c.put.new.slots.items (ap length written ∙ length-set slots (filled_end slots) (Some x) ∙ c.self.invariant.stand.many) in
    ap filled (whole ∙ written) ∙ filled-append slots x room ∙ ap (λ xs. filled xs ++ x ∷ []) c.self.view_is
