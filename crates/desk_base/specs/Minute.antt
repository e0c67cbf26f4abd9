-- Minutes of the desk's one civil time, numbered from 1970-01-01 00:00, which is 0.
use Rattle.std.specs.Prelude.{ℕ, ◌/◌, ◌%◌, ◌<◌, ◌≤◌, Bool, ◌&&◌, nat_lt, nat_le, List, ◌∷◌, ◌++◌}
use Rattle.desk_base.specs.Month.{month_of_day, two_digits}
use Rattle.desk_base.specs.Day.{day_of, day_text}
use Rattle.desk_base.specs.declared.minute.TheConstants.{YEARS_BEGIN, YEARS_END}

-- from 2000-01-01 00:00 to 2099-12-31 23:59
abbrev pub IsInYears : ℕ → Type 0
IsInYears minute = (YEARS_BEGIN ≤ minute) × (minute < YEARS_END)

abbrev pub is_in_years : ℕ → Bool
is_in_years minute = nat_le YEARS_BEGIN minute && nat_lt minute YEARS_END

-- the month of a minute
abbrev pub month_of : ℕ → ℕ
month_of minute = month_of_day (day_of minute)

-- `HH:MM`, of a minute of the day
abbrev pub time_text : ℕ → List ℕ
time_text minute = two_digits (minute / 60) ++ 58 ∷ two_digits (minute % 60)

-- `YYYY-MM-DD HH:MM`
unfoldable pub minute_text : ℕ → List ℕ
minute_text minute = day_text (day_of minute) ++ 32 ∷ time_text (minute % 1440)
