use Rattle.std.proofs.Common.{◌≡◌, ◌+◌, ◌∙◌, ap, ap₂, subst, sym, take, drop, length, arith}
use Rattle.byte_marks.specs.Marks.{AreMarked, mask_of}
use Rattle.byte_marks.proofs.MaskLemmas.{newly-marked, none-marked}
use Rattle.byte_marks.proofs.marks.Marks.next_mask.Goals as goal

pub loop-mask-preserved : goal.loop-mask-preserved
loop-mask-preserved c =
    let s = c.args.self.now in
    let begin = c.loop-mask.begin in
    let was = c.loop-mask.invariant in
    let text = ap (λ v. v.text) c.self.view_is in
    let mark = ap (λ v. v.mark) c.self.view_is in
    let mask : c.marks_at-mask.result ≡ mask_of s.mark (take 16 (drop (begin + 16) s.text)) = c.marks_at-mask.ensures ∙ ap₂ (λ m t. mask_of m (take 16 (drop (begin + 16) t))) mark text in
    subst (AreMarked s.text s.mark s.from (begin + 16)) (sym mask)
    (newly-marked s.text s.mark (begin + 16) s.from was.within
    (λ i low high. none-marked s.text s.mark s.from begin c.loop-mask.mask was c.loop-mask-test.true i low high (omega (arith, high, c.if-begin-self.true, ap length text))))
