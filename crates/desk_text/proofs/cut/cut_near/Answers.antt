use Rattle.std.proofs.Common.{◌≡◌, ◌∷◌, ◌∙◌, sym, ap, get_or, drop, []}
use Rattle.desk_base.specs.Parts.{parts_by}
use Rattle.desk_text.proofs.CutLemmas.{parts-one, parts-text, text-parts, some-parts}
use Rattle.desk_text.proofs.cut.cut_near.Goals as goal

pub returns-clause-some : goal.returns-clause-some
returns-clause-some c =
    let parts : parts_by c.args.mark c.args.text.now ≡ c.split_once.result.0.now ∷ parts_by c.args.mark c.in_ok-back.field-0.now = rw (c.in_ok-back.was) at c.split_once.ensures.parts in
    parts-text c.args.mark _ _ _ parts

pub returns-clause-only : goal.returns-clause-only
returns-clause-only c = λ front back free is.
    let both : c.split_once.result.0.now ∷ parts_by c.args.mark c.in_ok-back.field-0.now ≡ front ∷ parts_by c.args.mark back =
    sym (rw (c.in_ok-back.was) at c.split_once.ensures.parts) ∙ text-parts c.args.mark _ front back free is in
    (ap (λ ps. get_or ps 0 []) both, parts-one c.args.mark _ back (ap (λ ps. drop 1 ps) both))

pub returns-in_err-back-clause-only : goal.returns-in_err-back-clause-only
returns-in_err-back-clause-only c = λ front back free is.
    let both = sym (rw (c.in_err-back.was) at c.split_once.ensures.parts) ∙ text-parts c.args.mark _ front back free is in
    absurd (some-parts c.args.mark back (ap (λ ps. drop 1 ps) both))
