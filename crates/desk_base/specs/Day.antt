-- Civil days, numbered from 1 January 1970, which is 0.
use Rattle.std.specs.Prelude.{ℕ, ◌+◌, ◌-◌, ◌/◌, List, ◌∷◌, ◌++◌}
use Rattle.desk_base.specs.Month.{first_day, month_of_day, month_text, two_digits}

-- the day of a minute
abbrev pub day_of : ℕ → ℕ
day_of minute = minute / 1440

-- the day's number in its month, from 1
abbrev pub number_in_month : ℕ → ℕ
number_in_month day = day - first_day (month_of_day day) + 1

-- `YYYY-MM-DD`
unfoldable pub day_text : ℕ → List ℕ
day_text day = month_text (month_of_day day) ++ 45 ∷ two_digits (number_in_month day)
