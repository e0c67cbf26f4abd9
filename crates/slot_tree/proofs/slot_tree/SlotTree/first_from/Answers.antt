use Rattle.std.proofs.Common.{◌≡◌, is_some, length, sym, ap, ◌∙◌, arith}
use Rattle.slot_tree.specs.Slots.{slot_at, is_ready}
use Rattle.slot_tree.proofs.KeepLemmas.{past, same_power, size-few}
use Rattle.slot_tree.proofs.RestLemmas.{slot_at-unfilled}
use Rattle.slot_tree.proofs.slot_tree.SlotTree.first_from.Goals as goal
use Rattle.slot_tree.proofs.slot_tree.SlotTree.first_from.Goals.{then-from-many-via-then-from-many, then-from-many-via-else-from-many+then-self-eq0}

pub returns-then-from-many-clause-found : goal.returns-then-from-many-clause-found
returns-then-from-many-clause-found g c s low = elim c.then-from-many.branch [
  | then-from-many-via-then-from-many w ↦
      let long : length c.args.self.now ≡ c.slot_count-many.result = sym (ap length c.self.view_is) ∙ c.self.invariant.stand.many ∙ sym c.slot_count-many.ensures in
      ap (is_ready c.args.m) (past c.args.self.now s (omega (arith, long, low, w.if-from-many.true)))
  | then-from-many-via-else-from-many+then-self-eq0 w ↦
      ap (λ xs. is_ready c.args.m (slot_at xs s)) (sym c.self.view_is) ∙ ap (is_ready c.args.m) (slot_at-unfilled _ _ _ _ c.self.invariant.stand w.if-self-eq0.true s)
]

pub returns-in_err-at-clause-cost : goal.returns-in_err-at-clause-cost
returns-in_err-at-clause-cost g c k long =
    let same : c.self.inside.height ≡ k = same_power _ _ (sym c.self.invariant.stand.many ∙ ap length c.self.view_is ∙ long) in
    omega (arith, c.first_below.ensures.cost, same)

pub returns-in_err-at-clause-close : goal.returns-in_err-at-clause-close
returns-in_err-at-clause-close g c k long =
    let same : c.self.inside.height ≡ k = same_power _ _ (sym c.self.invariant.stand.many ∙ ap length c.self.view_is ∙ long) in
    omega (arith, c.first_below.ensures.cost, same)

pub returns-clause-cost : goal.returns-clause-cost
returns-clause-cost g c k long =
    let same : c.self.inside.height ≡ k = same_power _ _ (sym c.self.invariant.stand.many ∙ ap length c.self.view_is ∙ long) in
    omega (arith, c.first_below.ensures.cost, same)

pub returns-clause-close : goal.returns-clause-close
returns-clause-close g c k long =
    let same : c.self.inside.height ≡ k = same_power _ _ (sym c.self.invariant.stand.many ∙ ap length c.self.view_is ∙ long) in
    omega (arith, c.first_below.ensures.cost, same)

pub returns-then-from-many-clause-counted : goal.returns-then-from-many-clause-counted
returns-then-from-many-clause-counted g c s low some = elim c.then-from-many.branch [
  | then-from-many-via-then-from-many w ↦
      let long : length c.args.self.now ≡ c.slot_count-many.result = sym (ap length c.self.view_is) ∙ c.self.invariant.stand.many ∙ sym c.slot_count-many.ensures in
      let none = past c.args.self.now s (omega (arith, long, low, w.if-from-many.true)) in
      absurd (let e = sym (ap is_some none) ∙ some in cc)
  | then-from-many-via-else-from-many+then-self-eq0 w ↦
      let none = ap (λ xs. slot_at xs s) (sym c.self.view_is) ∙ slot_at-unfilled _ _ _ _ c.self.invariant.stand w.if-self-eq0.true s in
      absurd (let e = sym (ap is_some none) ∙ some in cc)
]

pub new-requires : goal.new-requires
new-requires g c =
    let few = size-few c.self.inside.height c.self.invariant.stand.low in
    omega (arith, few, c.deref.ensures.len, c.self.invariant.whole (omega (arith, c.if-self-eq0.false)))
