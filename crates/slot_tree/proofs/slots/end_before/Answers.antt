use Rattle.std.proofs.Common.{◌≡◌, ◌-◌, None, is_some, true, sym, ap, ◌∙◌, arith}
use Rattle.slot_tree.specs.Slots.{slot_at}
use Rattle.std.proofs.lemmas.List.{get_or_read}
use Rattle.slot_tree.proofs.EndLemmas.{filled_end-is}
use Rattle.slot_tree.proofs.slots.end_before.Goals as goal

pub returns-else-is_none : goal.returns-else-is_none
returns-else-is_none c = sym (filled_end-is _ _ record {
  after = c.loop-end.invariant.after;
  before = λ some.
      let here : c.index-slots-end.result ≡ slot_at c.args.slots.now (c.loop-end.end - 1) = get_or_read c.args.slots.now (c.loop-end.end - 1) _ (omega arith) c.index-slots-end.is None in
      let filled : is_some c.index-slots-end.result ≡ true = grind (arith, c.is_none.ensures, c.if-is_none.false) in
      ap is_some (sym here) ∙ filled;
})

pub returns-after-loop-end : goal.returns-after-loop-end
returns-after-loop-end c = sym (filled_end-is _ _ record {
  after = c.loop-end.invariant.after;
  before = λ some. absurd (omega (arith, some, c.loop-end-test.false));
})
