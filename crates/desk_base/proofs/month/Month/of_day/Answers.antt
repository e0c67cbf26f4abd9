use Rattle.desk_base.proofs.MonthLemmas.{month_bound}
use Rattle.desk_base.proofs.month.Month.of_day.Goals as goal

pub invariant_of-result : goal.invariant_of-result
invariant_of-result c = month_bound c.number.result c.month_of.result c.month_of.ensures c.number.ensures.range
