use Rattle.std.proofs.Common.{◌-◌, ◌+◌, ◌≤◌, arith}
use Rattle.desk_base.proofs.MonthLemmas.{month_of_day-unique, first_day-next, length_of_bounds}
use Rattle.desk_base.proofs.day.Day.in_month.Goals as goal
use Rattle.desk_base.proofs.day.Day.in_month.Goals.{After-first_day}

-- a month has 31 days at most
range : (c : After-first_day) → c.args.self - c.first_day.result + 1 ≤ 31
range c =
    omega (arith, c.first_day.ensures, c.requires.not_over, first_day-next c.args.month, length_of_bounds c.args.month)

pub overflow_cast-result : goal.overflow_cast-result
overflow_cast-result c =
    omega (arith, c.self.view_is, c.result.view_is, range (goal.at.overflow_cast-result c).After-first_day)

pub returns-clause-value : goal.returns-clause-value
returns-clause-value c =
    rw (month_of_day-unique c.args.self c.args.month c.requires) (omega (arith, c.self.view_is, c.result.view_is, c.first_day.ensures))

pub returns-clause-range : goal.returns-clause-range
returns-clause-range c =
    omega (arith, c.self.view_is, c.result.view_is, range (goal.at.returns-clause-range c).After-first_day)
