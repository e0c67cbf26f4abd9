-- Where windows lie.
use Rattle.std.proofs.Common.{ℕ, ◌+◌, arith}
use Rattle.desk_base.specs.Minute.{IsInYears}
use Rattle.desk_base.specs.Window.{WindowValue, IsWindow, Holds}
use Rattle.desk_base.proofs.MonthLemmas.{first_day_mono, first_day-2000, first_day-2100}

-- a window's minutes are of the years 2000 to 2099
pub in_years-Holds : (w : WindowValue) (minute : ℕ) → IsWindow w → Holds w minute → IsInYears minute
in_years-Holds w minute is holds = (
  omega (arith, holds.0, first_day_mono 360 w.first is.begins, first_day-2000),
  omega (arith, holds.1, first_day_mono (w.first + w.months) 1560 is.ends, first_day-2100),
)
