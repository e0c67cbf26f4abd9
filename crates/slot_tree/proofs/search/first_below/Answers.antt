use Rattle.std.proofs.Common.{◌+◌, ◌*◌, ◌^◌, inl, inr, arith}
use Rattle.std.proofs.lemmas.Bool.{cases_lt}
use Rattle.slot_tree.proofs.LeastLemmas.{sibling_within, sibling_below, climbs}
use Rattle.slot_tree.proofs.search.first_below.Goals as goal

pub goes_right-requires-clause-right : goal.goes_right-requires-clause-right
goes_right-requires-clause-right g c is_left = sibling_below _ _ _ _ _ _ c.requires.long c.loop-t.invariant.comes c.loop-t-test.true is_left

pub descend-requires-clause-within : goal.descend-requires-clause-within
descend-requires-clause-within g c =
    sibling_within _ _ _ _ _ _ c.requires.long c.loop-t.invariant.comes c.loop-t-test.true (c.goes_right.ensures.left c.if-goes_right.true)

pub returns-then-goes_right-clause-found : goal.returns-then-goes_right-clause-found
returns-then-goes_right-clause-found g c =
    let within = sibling_within _ _ _ _ _ _ c.requires.long c.loop-t.invariant.comes c.loop-t-test.true (c.goes_right.ensures.left c.if-goes_right.true) in
    record {
      behind = omega (arith, c.loop-t.invariant.comes.behind, c.descend.ensures.from);
      within = omega (arith, c.descend.ensures.to, within);
      below = c.descend.ensures.below;
      first = λ a low high. elim (cases_lt a ((c.loop-t.i + 1) * 2 ^ c.loop-t.t)) [
        | inl before ↦ c.loop-t.invariant.comes.none a low before
        | inr behind ↦ c.descend.ensures.first a behind high
      ];
    }

pub loop-t-preserved : goal.loop-t-preserved
loop-t-preserved g c = record {
  comes = climbs _ _ _ _ _ _ c.requires.long c.requires.least c.loop-t.invariant.comes c.loop-t-test.true (c.goes_right.ensures.above c.if-goes_right.false);
  cost = omega (arith, c.goes_right.ensures.cost, c.loop-t.invariant.cost);
  some = omega (arith, c.goes_right.ensures.counted, c.loop-t.invariant.some);
}
