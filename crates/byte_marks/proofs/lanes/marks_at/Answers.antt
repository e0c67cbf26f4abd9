use Rattle.std.proofs.Common.{◌∙◌, ◌-◌, ◌/◌, ◌^◌, ap, length, arith}
use Rattle.byte_marks.proofs.MaskLemmas.{last-marks}
use Rattle.byte_marks.proofs.lanes.marks_at.Goals as goal

pub returns-else-at-last : goal.returns-else-at-last
returns-else-at-last c =
    let text = c.args.text.now in
    let last = length text - 16 in
    ap (λ m. m / 2 ^ (c.args.at - last)) c.lanes-else-at-last.ensures
    ∙ last-marks text c.args.mark last c.args.at (omega (arith, c.requires.many)) (omega (arith, c.if-at-last.false))
