-- Room for further commands.
use Rattle.std.specs.Prelude.{◌+◌, ◌<◌, ◌≤◌}
use Rattle.desk_base.specs.declared.limits.TheConstants.{NUMBER_LIMIT}
use Rattle.desk_base.specs.declared.minute.TheConstants.{YEARS_BEGIN, YEARS_END}
use Rattle.day_gen.specs.declared.course.Course.{Course}

-- there is room for one vacancy more: its report lies in the years 2000 to 2099, and there is a number for it
pub record HasVacancyRoom (c : Course) : Type 0 where
  pub begins : YEARS_BEGIN ≤ c.minute
  pub ends : c.minute + 1_000 < YEARS_END
  pub numbers : c.made < NUMBER_LIMIT

-- there is room for one turn more, whatever it is
pub record HasRoom (c : Course) : Type 0 where
  pub begins : YEARS_BEGIN ≤ c.minute
  pub ends : c.minute + 10_000 < YEARS_END
  pub numbers : c.made < NUMBER_LIMIT
