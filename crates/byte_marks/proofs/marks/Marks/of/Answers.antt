use Rattle.std.proofs.Common.{◌∙◌, subst, sym, arith}
use Rattle.byte_marks.specs.Marks.{AreMarked}
use Rattle.byte_marks.proofs.MaskLemmas.{newly-marked}
use Rattle.byte_marks.proofs.marks.Marks.of.Goals as goal
use Rattle.byte_marks.proofs.marks.Marks.of.Goals.{then-text-lt-LANES, else-text-lt-LANES}

pub invariant_of-result : goal.invariant_of-result
invariant_of-result c = λ many. elim c.if-text-lt-LANES.branch [
  | then-text-lt-LANES w ↦ absurd (omega (arith, many, w.if-text-lt-LANES.true))
  | else-text-lt-LANES w ↦
      subst (AreMarked c.args.text.now c.args.mark 0 0) (sym (w.mask-is ∙ w.marks_at-mask.ensures))
      (newly-marked c.args.text.now c.args.mark 0 0 (omega arith) (λ i low less. absurd (omega (arith, less))))
]
