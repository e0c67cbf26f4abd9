-- Civil dates from 1970 on: their day numbers, and the months in which they lie.
use Rattle.std.proofs.Common.{◌≡◌, ℕ, ◌+◌, ◌/◌, ◌%◌, ◌^◌, ◌<◌, sym, ap, ◌∙◌, arith, pos}
use Rattle.jiff_core.specs.Calendar.{day_count}
use Rattle.jiff_core.specs.Date.{epoch_day}
use Rattle.jiff_core.specs.declared.civil.date.Date.{Date}
use Rattle.jiff_core.proofs.SignedLemmas.{signed_arith}
use Rattle.jiff_core.proofs.CalendarLemmas.{day_count-day, days_from_civil-day_count}
use Rattle.jiff_core.proofs.DateLemmas.{civil, epoch_day_injective}
use Rattle.desk_base.specs.Month.{first_day, year_of, number_in_year, month_of_day, IsMonthOf}
use Rattle.desk_base.specs.Day.{number_in_month}
use Rattle.desk_base.specs.Civil.{IsMonthAt, IsDated}
use Rattle.desk_base.proofs.MonthLemmas.{first_day-count, first_day-next, month_of_day_is, month_of_day-unique, month_bound}

-- a day number, as a count of days
pub epoch_day-count : (date : Date) (day : ℕ) → epoch_day date ≡ pos day → day_count date.year date.month date.day ≡ day + 4_371_953
epoch_day-count date day e =
    omega (arith, signed_arith, days_from_civil-day_count date.year date.month date.day)

-- the date is its month's first day and its number in the month
pub day_of_month : (date : Date) (day month : ℕ) → epoch_day date ≡ pos day → IsMonthAt month date → first_day month + date.day ≡ day + 1
day_of_month date day month e at =
    let count = epoch_day-count date day e in
    let here = rw (at.year, at.number) at count in
    omega (arith, here, first_day-count month, day_count-day (pos (year_of month)) (number_in_year month) date.day 1 (civil date).2.0 (omega arith))

-- the civil date of a day
pub date_on : (day : ℕ) → day < 186_414 → Date
date_on day bound =
    let month = month_of_day day in
    let is = month_of_day_is day in
    let low = month_bound day month is bound in
    record {
      year = pos (year_of month);
      month = number_in_year month;
      day = number_in_month day;
      year_in = (omega (arith, signed_arith), omega (arith, signed_arith));
      month_in = (omega arith, omega arith);
      day_in = (omega arith, omega (arith, is.begun, is.not_over, first_day-next month));
    }

pub epoch_day-date_on : (day : ℕ) (bound : day < 186_414) → epoch_day (date_on day bound) ≡ pos day
unfolding date_on
epoch_day-date_on day bound =
    let month = month_of_day day in
    omega (arith, signed_arith, (month_of_day_is day).begun, days_from_civil-day_count (pos (year_of month)) (number_in_year month) (number_in_month day), first_day-count month, day_count-day (pos (year_of month)) (number_in_year month) (number_in_month day) 1 (omega arith) (omega arith))

-- a minute lies on the civil date of its day
pub is_dated : (minute : ℕ) → minute < 2 ^ 28 → IsDated minute
is_dated minute bound =
    let in_range : minute / 1440 < 186_414 = omega arith in (
      date_on (minute / 1440) in_range,
      (
        minute % 1440 / 60,
        (
          minute % 60,
          record {
            hour_in = omega arith;
            past_in = omega arith;
            number = rw (epoch_day-date_on (minute / 1440) in_range) (omega (arith, signed_arith));
          },
        ),
      ),
    )

-- the month of a date is that of its day
pub IsMonthAt-date : (date : Date) (day month : ℕ) → day < 186_414 → epoch_day date ≡ pos day → IsMonthOf day month → IsMonthAt month date
unfolding date_on
IsMonthAt-date date day month bound e is =
    let same = epoch_day_injective date (date_on day bound) (e ∙ sym (epoch_day-date_on day bound)) in
    let month_is = month_of_day-unique day month is in
    record { year = same.0 ∙ ap (λ m. pos (year_of m)) month_is; number = same.1 ∙ ap number_in_year month_is }
