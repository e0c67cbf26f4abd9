use Rattle.std.proofs.Common.{◌-◌, refl, arith}
use Rattle.slot_tree.proofs.LeastLemmas.{descent_within, descends_left, descends_right}
use Rattle.slot_tree.proofs.search.descend.Goals as goal

pub read-requires : goal.read-requires
read-requires g c =
    let below = descent_within _ _ _ _ _ (c.loop-left.left - 1) c.loop-left.left c.loop-left.invariant.comes (omega arith) c.requires.within in
    omega (arith, below)

pub loop-left-preserved-then-read-m : goal.loop-left-preserved-then-read-m
loop-left-preserved-then-read-m g c = record {
  comes = descends_right _ _ _ _ c.loop-left.i _ c.loop-left.left _ c.requires.least c.requires.within c.loop-left.invariant.comes (omega arith) refl (omega (arith, c.read.ensures.value, c.if-read-m.true));
  cost = omega (arith, c.read.ensures.cost, c.loop-left.invariant.cost);
  counted = omega (arith, c.read.ensures.cost, c.loop-left.invariant.counted);
}

pub loop-left-preserved : goal.loop-left-preserved
loop-left-preserved g c = record {
  comes = descends_left _ _ _ _ c.loop-left.i _ c.loop-left.left _ c.loop-left.invariant.comes (omega arith) refl (omega (arith, c.read.ensures.value, c.if-read-m.false));
  cost = omega (arith, c.read.ensures.cost, c.loop-left.invariant.cost);
  counted = omega (arith, c.read.ensures.cost, c.loop-left.invariant.counted);
}
