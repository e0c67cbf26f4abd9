use Rattle.std.proofs.Common.{◌≡◌, ◌+◌, ◌-◌, ◌*◌, ◌^◌, ◌++◌, nat_lt, None, is_some, length, replicate, sym, ap, subst, ◌∙◌, rules, arith}
use Rattle.std.specs.List.{filter}
use Rattle.std.proofs.lemmas.Fn.{filter_same}
use Rattle.slot_tree.specs.Slots.{slot_at, filled, filled_end, compacted}
use Rattle.slot_tree.specs.Nodes.{KeysStand}
use Rattle.slot_tree.specs.Rest.{all_slots}
use Rattle.slot_tree.proofs.EndLemmas.{front-filled, length-compacted, filled_end-compacted, filled-compacted, filled_end-front}
use Rattle.slot_tree.proofs.KeepLemmas.{size-few}
use Rattle.slot_tree.proofs.RestLemmas.{all_slots-whole, filter-all, kept-whole}
use Rattle.slot_tree.proofs.slot_tree.SlotTree.compact.Goals as goal

kept : (c : goal.After-mark_front) → c.retain.new.self.items ≡ filter is_some c.args.self.now
kept c = filter_same _ is_some _ (λ x b f' k. search rules) _ _ c.retain.ensures.filtered ∙ sym (filter-all c.self.inside.height c.self.inside.slots.items) ∙ ap (filter is_some) c.self.view_is

long : (c : goal.After-mark_front) → length c.args.self.now ≡ 2 ^ c.self.inside.height
long c = sym (ap length c.self.view_is) ∙ c.self.invariant.stand.many

are : (c : goal.After-mark_front) → c.keep_all.new.slots.items ≡ compacted c.args.self.now
are c =
    let slots = c.args.self.now in
    c.keep_all.ensures.slots ∙ ap (all_slots c.self.inside.height) (kept c) ∙ ap (λ n. filter is_some slots ++ replicate (n - length (filter is_some slots)) None) (sym (long c))

pub mark_front-requires : goal.mark_front-requires
mark_front-requires c =
    omega (arith, size-few c.self.inside.height c.self.invariant.stand.low, c.self.invariant.room.slots_fit, c.retain.ensures.bound, c.len-self-inside.ensures)

pub invariant_of-self : goal.invariant_of-self
invariant_of-self c =
    let many : length c.keep_all.new.slots.items ≡ 2 ^ c.self.inside.height = ap length (are c) ∙ length-compacted c.args.self.now ∙ long c in
    let twice : length c.fill.new.nodes.items ≡ 2 * 2 ^ c.self.inside.height = c.fill.ensures.length ∙ ap length c.keep_all.ensures.nodes ∙ c.self.invariant.stand.twice in
    kept-whole _ _ _ _ _ _ _ record {
      low = c.self.invariant.stand.low;
      many = many;
      twice = c.mend.ensures.length ∙ twice;
      least = c.mend.ensures.least;
      keys = λ s within.
          let lowest = c.mend.ensures.lowest (length c.keep_all.new.slots.items + s) (omega (arith, twice, many)) in
          lowest ∙ (subst (λ xs. KeysStand xs c.fill.new.nodes.items) c.deref.ensures.value c.fill.ensures.keys s within);
      ends = c.len-self-inside.ensures ∙ c.retain.new.self.ok.0 ∙ ap length (kept c) ∙ sym (filled_end-compacted c.args.self.now) ∙ ap filled_end (sym (are c));
    }
    (omega (arith, c.self.invariant.room.slots_room, c.retain.ensures.capacity, c.keep_all.ensures.slots_room))
    (omega (arith, c.self.invariant.room.nodes_room, c.keep_all.ensures.nodes_room, c.fill.ensures.room, c.mend.ensures.room))
    (λ i. c.mark_front.ensures i ∙ ap (nat_lt i) (c.len-self-inside.ensures ∙ c.retain.new.self.ok.0 ∙ ap length (kept c)) ∙ front-filled c.args.self.now i ∙ ap (λ xs. is_some (slot_at xs i)) (sym (are c)))

pub returns : goal.returns
returns c =
    let whole : all_slots c.self.inside.height c.keep_all.new.slots.items ≡ compacted c.args.self.now =
    all_slots-whole _ _ (ap length (are c) ∙ length-compacted c.args.self.now ∙ long c) ∙ are c in
    record {
      slots = whole;
      order = ap filled whole ∙ filled-compacted c.args.self.now;
      front = ap filled_end whole ∙ filled_end-front c.args.self.now ∙ sym (ap (λ xs. length (filled xs)) whole);
      length = ap length whole ∙ length-compacted c.args.self.now;
    }
