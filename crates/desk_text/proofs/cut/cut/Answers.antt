use Rattle.std.proofs.Common.{◌∙◌, ◌+◌, Some, get_or, drop, [], ap, sym}
use Rattle.std.proofs.lemmas.List.{take_rest}
use Rattle.memchr.specs.Find.{IsFirstByte, is_byte}
use Rattle.record_rows.proofs.FoundLemmas.{parts_by-found, parts_by-absent}
use Rattle.desk_text.proofs.CutLemmas.{parts-one, parts-text, text-parts, some-parts}
use Rattle.desk_text.proofs.cut.cut.Goals as goal

pub returns-clause-some : goal.returns-clause-some
returns-clause-some c =
    let found : IsFirstByte (is_byte c.args.mark) c.args.text.now (Some c.in_ok-at.at) = rw (c.in_ok-at.was) at c.memchr.ensures in
    rw (take_rest c.args.text.now (c.in_ok-at.at + 1)) (parts-text c.args.mark _ _ _ (parts_by-found c.args.mark c.in_ok-at.at c.args.text.now found))

pub returns-clause-only : goal.returns-clause-only
returns-clause-only c = λ front back free is.
    let found : IsFirstByte (is_byte c.args.mark) c.args.text.now (Some c.in_ok-at.at) = rw (c.in_ok-at.was) at c.memchr.ensures in
    let parts = sym (parts_by-found c.args.mark c.in_ok-at.at c.args.text.now found) ∙ text-parts c.args.mark _ front back free is in
    rw (take_rest c.args.text.now (c.in_ok-at.at + 1)) (ap (λ ps. get_or ps 0 []) parts, parts-one c.args.mark _ back (ap (λ ps. drop 1 ps) parts))

pub returns-in_err-at-clause-only : goal.returns-in_err-at-clause-only
returns-in_err-at-clause-only c = λ front back free is.
    let parts = sym (parts_by-absent c.args.mark c.args.text.now c.in_err-at.ensures) ∙ text-parts c.args.mark _ front back free is in
    absurd (some-parts c.args.mark back (ap (λ ps. drop 1 ps) parts))
