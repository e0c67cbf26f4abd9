use Rattle.std.proofs.Common.{arith}
use Rattle.desk_base.proofs.MonthLemmas.{first_day-next, length_of_bounds}
use Rattle.desk_base.proofs.month.Month.days.Goals as goal

pub returns-clause-next : goal.returns-clause-next
returns-clause-next c = omega (arith, rw (c.self.view_is) at c.days_of.ensures, first_day-next c.args.self)

pub returns-clause-most : goal.returns-clause-most
returns-clause-most c = omega (arith, c.days_of.ensures, length_of_bounds c.self.inside.0)
