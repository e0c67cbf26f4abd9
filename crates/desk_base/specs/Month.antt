-- Months, numbered from January 1970, which is 0, on the civil calendar of `jiff`.
use Rattle.std.specs.Prelude.{ℕ, zero, suc, ◌+◌, ◌-◌, ◌*◌, ◌/◌, ◌%◌, ◌<◌, ◌≤◌, List, ◌∷◌, [], ◌++◌, pos, nat_le, if◌then◌else◌}
use Rattle.jiff_core.specs.Calendar.{day_count, days_in_month}
use Rattle.desk_base.specs.declared.month.TheConstants.{MONTHS_BEGIN, MONTHS_END}

-- the civil year of a month
abbrev pub year_of : ℕ → ℕ
year_of month = 1970 + month / 12

-- the month's number in its year, from 1 for January
abbrev pub number_in_year : ℕ → ℕ
number_in_year month = month % 12 + 1

-- the days from 1 January 1970 to the first day of the month
unfoldable pub first_day : ℕ → ℕ
first_day month = day_count (pos (year_of month)) (number_in_year month) 1 - day_count (pos 1970) 1 1

-- the month's first minute, counted from 1970-01-01 00:00
abbrev pub first_minute : ℕ → ℕ
first_minute month = 1440 * first_day month

-- how many minutes the month has
abbrev pub minutes_of : ℕ → ℕ
minutes_of month = 1440 * days_in_month (pos (year_of month)) (number_in_year month)

-- the latest of the months from 0 to this one that has begun by the day
unfoldable pub latest_month : ℕ → ℕ → ℕ
latest_month zero day = 0
latest_month (suc month) day = if nat_le (first_day (suc month)) day then suc month else latest_month month day

-- the month of a day: the latest that has begun by then. A month has more than one day, so its number is below the day's.
unfoldable pub month_of_day : ℕ → ℕ
month_of_day day = latest_month day day

-- the month has begun by the day, and the next has not
pub record IsMonthOf (day month : ℕ) : Type 0 where
  pub begun : first_day month ≤ day
  pub not_over : day < first_day (month + 1)

-- a month of the years 2000 to 2099
abbrev pub IsMonthInYears : ℕ → Type 0
IsMonthInYears month = (MONTHS_BEGIN ≤ month) × (month < MONTHS_END)

-- two decimal digits
abbrev pub two_digits : ℕ → List ℕ
two_digits n = (48 + n / 10) ∷ (48 + n % 10) ∷ []

-- `YYYY-MM`
unfoldable pub month_text : ℕ → List ℕ
month_text month = two_digits (year_of month / 100) ++ two_digits (year_of month % 100) ++ 45 ∷ two_digits (number_in_year month)
