use Rattle.std.proofs.Common.{◌≡◌, true, None, is_some, length, set, sym, ap, subst, ◌∙◌, arith}
use Rattle.std.proofs.lemmas.List.{length-set}
use Rattle.slot_tree.specs.Slots.{slot_at, filled_end}
use Rattle.slot_tree.specs.Rest.{all_slots}
use Rattle.slot_tree.proofs.SlotLemmas.{slot_at-within}
use Rattle.slot_tree.proofs.EndLemmas.{end-cleared, filled_end-few}
use Rattle.slot_tree.proofs.RestLemmas.{kept-written}
use Rattle.slot_tree.proofs.slot_tree.SlotTree.clear.Goals as goal

-- what is written
written : (c : goal.After-deref) → c.deref.result.now ≡ set (all_slots c.self.inside.height c.self.inside.slots.items) c.args.slot None
written c = c.deref.ensures.value ∙ c.put.ensures.slots ∙ ap (λ xs. set xs c.args.slot None) c.keep_all.ensures.slots

pub end_before-self-inside-requires-clause-within : goal.end_before-self-inside-requires-clause-within
end_before-self-inside-requires-clause-within c =
    let slots = all_slots c.self.inside.height c.self.inside.slots.items in
    omega (arith, filled_end-few slots, c.self.invariant.stand.ends, ap length (written c), length-set slots c.args.slot None)

pub end_before-self-inside-requires-clause-after : goal.end_before-self-inside-requires-clause-after
end_before-self-inside-requires-clause-after c s low =
    let slots = all_slots c.self.inside.height c.self.inside.slots.items in
    let filled : is_some (slot_at slots c.args.slot) ≡ true = subst (λ xs. is_some (slot_at xs c.args.slot) ≡ true) (sym c.self.view_is) c.requires in
    ap (λ xs. slot_at xs s) (written c)
    ∙ end-cleared slots c.args.slot s (slot_at-within slots c.args.slot filled) (omega (arith, low, c.self.invariant.stand.ends))

pub invariant_of-self : goal.invariant_of-self
invariant_of-self c =
    kept-written _ _ _ _ _ _ _ _ _ _ _ _ _ _ _ _ _ c.self.invariant c.keep_all.ensures.slots c.keep_all.ensures.nodes
    (omega (arith, c.keep_all.ensures.slots_room, c.put.ensures.slots_room)) (omega (arith, c.keep_all.ensures.nodes_room, c.put.ensures.nodes_room))
    c.put.ensures.slots c.put.ensures.length c.put.ensures.least c.put.ensures.keys
    (c.end_before-self-inside.ensures ∙ ap filled_end (c.deref.ensures.value ∙ c.put.ensures.slots))
    c.put.ensures.told
