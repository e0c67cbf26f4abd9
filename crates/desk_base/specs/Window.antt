-- Windows of calendar months.
use Rattle.std.specs.Prelude.{ℕ, ◌+◌, ◌<◌, ◌≤◌}
use Rattle.desk_base.specs.Month.{first_minute}
use Rattle.desk_base.specs.declared.month.TheConstants.{MONTHS_BEGIN, MONTHS_END}
use Rattle.desk_base.specs.declared.window.TheConstants.{WINDOW_MONTHS}

-- the first month, and how many there are
pub record WindowValue : Type 0 where
  pub first : ℕ
  pub months : ℕ

abbrev pub window_of : ℕ → ℕ → WindowValue
window_of first months = record { first = first; months = months }

-- 1 to 24 months that lie in the years 2000 to 2099
pub record IsWindow (w : WindowValue) : Type 0 where
  pub some : 1 ≤ w.months
  pub most : w.months ≤ WINDOW_MONTHS
  pub begins : MONTHS_BEGIN ≤ w.first
  pub ends : w.first + w.months ≤ MONTHS_END

-- the window's first minute
abbrev pub start_of : WindowValue → ℕ
start_of w = first_minute w.first

-- the first minute after the window
abbrev pub end_of : WindowValue → ℕ
end_of w = first_minute (w.first + w.months)

-- the minute lies in the window
abbrev pub Holds : WindowValue → ℕ → Type 0
Holds w minute = (start_of w ≤ minute) × (minute < end_of w)
