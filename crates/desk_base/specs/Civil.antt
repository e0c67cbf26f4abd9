-- What civil dates and times of day, as `jiff` has them, are to the desk's minutes and months.
use Rattle.std.specs.Prelude.{◌≡◌, ℕ, ◌+◌, ◌*◌, ◌/◌, ◌%◌, ◌<◌, List, ◌∷◌, ◌++◌, pos, ◌+ℤ◌, ◌*ℤ◌, unsigned_abs}
use Rattle.desk_base.specs.Month.{year_of, number_in_year, two_digits}
use Rattle.jiff_core.specs.declared.civil.date.Date.{Date}
use Rattle.jiff_core.specs.Date.{epoch_day}

-- the minute that begins at this hour and minute of the civil date
pub record IsMinuteAt (minute : ℕ) (date : Date) (hour past : ℕ) : Type 0 where
  pub hour_in : hour < 24
  pub past_in : past < 60
  pub number : pos minute ≡ epoch_day date *ℤ pos 1440 +ℤ pos (60 * hour + past)

-- the minute lies on a civil date
abbrev pub IsDated : ℕ → Type 0
IsDated minute = (date : Date) × ((hour : ℕ) × ((past : ℕ) × IsMinuteAt minute date hour past))

-- the month in which the civil date lies
pub record IsMonthAt (month : ℕ) (date : Date) : Type 0 where
  pub year : date.year ≡ pos (year_of month)
  pub number : date.month ≡ number_in_year month

-- `YYYY-MM-DD HH:MM` of a civil date and a time of day
abbrev pub civil_text : Date → ℕ → ℕ → List ℕ
civil_text date hour past =
    let year = unsigned_abs date.year in
    two_digits (year / 100) ++ two_digits (year % 100) ++ 45 ∷ two_digits date.month ++ 45 ∷ two_digits date.day
    ++ 32 ∷ two_digits hour ++ 58 ∷ two_digits past
