use Rattle.std.proofs.Common.{sym, ◌∙◌, ap, arith}
use Rattle.desk_base.proofs.MonthLemmas.{month_of_day-unique}
use Rattle.desk_base.proofs.CivilLemmas.{IsMonthAt-date}
use Rattle.desk_base.specs.Month.{month_of_day}
use Rattle.desk_base.proofs.month.Month.of.Goals as goal

pub returns-clause-value : goal.returns-clause-value
returns-clause-value c =
    sym (month_of_day-unique c.of.result c.of_day.result c.of_day.ensures) ∙ ap month_of_day c.of.ensures.value

pub returns-clause-begun : goal.returns-clause-begun
returns-clause-begun c = omega (arith, c.of_day.ensures.begun, c.of.ensures.value)

pub returns-clause-not_over : goal.returns-clause-not_over
returns-clause-not_over c = omega (arith, c.of_day.ensures.not_over, c.of.ensures.value)

pub returns-clause-civil : goal.returns-clause-civil
returns-clause-civil c = λ date hour past at.
    IsMonthAt-date date c.of.result c.of_day.result (omega (arith, c.of.ensures.value)) (c.of.ensures.civil date hour past at) c.of_day.ensures
