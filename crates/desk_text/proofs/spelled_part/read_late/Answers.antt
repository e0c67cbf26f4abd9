use Rattle.std.proofs.Common.{◌∙◌, sym, ap, Some, arith}
use Rattle.desk_text.proofs.ReplyApartLemmas.{late_text-one}
use Rattle.desk_text.proofs.PartLemmas.{late-early}
use Rattle.desk_text.proofs.spelled_part.read_late.Goals as goal

pub returns-in-Some-clause-only : goal.returns-in-Some-clause-only
returns-in-Some-clause-only c = λ minute from below e.
    let in_years = c.in-Some.ensures.some.0 in
    ap Some (late_text-one c.in-Some.minute minute (omega (arith, in_years.1)) below (late-early c.in-Some.minute in_years.1 ∙ sym c.in-Some.ensures.some.1 ∙ e))
