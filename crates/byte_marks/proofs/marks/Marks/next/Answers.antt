use Rattle.std.proofs.Common.{◌+◌, ◌*◌, ◌%◌, ◌^◌, bit_and, w64, ap, subst, sym, length, arith}
use Rattle.std.specs.Int.{trailing_zeros, bit_not}
use Rattle.byte_marks.specs.Marks.{IsFirstFrom, AreMarked, marks_from}
use Rattle.byte_marks.proofs.MaskLemmas.{lowest-first, others-marked}
use Rattle.byte_marks.proofs.marks.Marks.next.Goals as goal
use Rattle.byte_marks.proofs.marks.Marks.next.Goals.{Else-mask-eq0}

-- where the lowest bit tells it to be
found : (c : Else-mask-eq0) → IsFirstFrom c.args.self.now.text c.args.self.now.mark c.args.self.now.from (c.next_mask-begin.result.0 + trailing_zeros w64 c.next_mask-begin.result.1)
found c = lowest-first _ _ _ _ _ c.next_mask-begin.ensures.marked (omega (arith, c.if-mask-eq0.false)) (omega (arith, c.next_mask-begin.type_inv))

pub overflow_add-at : goal.overflow_add-at
overflow_add-at c = record { fits = omega (arith, (found c).stands.0, c.self.told, ap (λ v. length v.text) c.self.view_is) }

pub overflow_add-self-2 : goal.overflow_add-self-2
overflow_add-self-2 c = record { fits = omega (arith, (found (goal.at.overflow_add-self-2 c).Else-mask-eq0).stands.0, c.self.told, ap (λ v. length v.text) c.self.view_is) }

pub invariant_of-self-2 : goal.invariant_of-self-2
invariant_of-self-2 c = λ many.
    let mask = c.next_mask-begin.result.1 in
    subst (λ v. AreMarked v.text v.mark (c.next_mask-begin.result.0 + trailing_zeros w64 mask + 1) c.next_mask-begin.result.0 (bit_and mask (bit_not w64 (1 * 2 ^ trailing_zeros w64 mask % 2 ^ 64)))) (sym c.self.view_is)
    (others-marked _ _ _ _ mask c.next_mask-begin.ensures.marked (omega (arith, c.if-mask-eq0.false)) (omega (arith, c.next_mask-begin.type_inv)))

pub returns-clause-found : goal.returns-clause-found
returns-clause-found c = (
  found (goal.at.returns-clause-found c).Else-mask-eq0,
  ap (λ v. marks_from v.text v.mark (c.next_mask-begin.result.0 + trailing_zeros w64 c.next_mask-begin.result.1 + 1)) c.self.view_is,
)
