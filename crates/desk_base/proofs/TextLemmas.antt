-- What the cells of a month's or a minute's text spell, and that a minute's text is its civil date and time.
use Rattle.std.proofs.Common.{◌≡◌, ℕ, ◌+◌, ◌-◌, ◌*◌, ◌/◌, ◌%◌, List, length, get_or, refl, ap, ◌∙◌, arith}
use Rattle.std.proofs.Common.{pos}
use Rattle.jiff_core.specs.Date.{epoch_day}
use Rattle.jiff_core.specs.declared.civil.date.Date.{Date}
use Rattle.jiff_core.proofs.SignedLemmas.{signed_arith}
use Rattle.jiff_core.proofs.DateLemmas.{civil}
use Rattle.desk_base.specs.Month.{year_of, number_in_year, first_day, month_text}
use Rattle.desk_base.specs.Day.{day_of, day_text, number_in_month}
use Rattle.desk_base.specs.Minute.{month_of, minute_text}
use Rattle.desk_base.specs.Civil.{IsMinuteAt, IsMonthAt, civil_text}
use Rattle.desk_base.proofs.MonthLemmas.{month_of_day_is}
use Rattle.desk_base.proofs.CivilLemmas.{day_of_month}

-- the number that the two digits at this index spell
abbrev pub spelled : List ℕ → ℕ → ℕ
spelled text i = 10 * (get_or text i 0 - 48) + (get_or text (i + 1) 0 - 48)

-- a month's text spells its year and its number
pub record SpellsMonth (text : List ℕ) (month : ℕ) : Type 0 where
  pub len : length text ≡ 7
  pub year : 100 * spelled text 0 + spelled text 2 ≡ year_of month
  pub number : spelled text 5 ≡ number_in_year month

pub month_text_spells : (text : List ℕ) (month : ℕ) → text ≡ month_text month → SpellsMonth text month
unfolding month_text
month_text_spells text month e = record {
  len = ap length e;
  year = ap (λ t. 100 * spelled t 0 + spelled t 2) e ∙ omega arith;
  number = ap (λ t. spelled t 5) e ∙ omega arith;
}

-- a minute's text spells the year and the number of its month, its day in the month, its hour and what is past the hour
pub record SpellsMinute (text : List ℕ) (minute : ℕ) : Type 0 where
  pub len : length text ≡ 16
  pub year : 100 * spelled text 0 + spelled text 2 ≡ year_of (month_of minute)
  pub number : spelled text 5 ≡ number_in_year (month_of minute)
  pub day : first_day (month_of minute) + spelled text 8 ≡ day_of minute + 1
  pub hour : spelled text 11 ≡ minute % 1440 / 60
  pub past : spelled text 14 ≡ minute % 1440 % 60

pub minute_text_spells : (text : List ℕ) (minute : ℕ) → text ≡ minute_text minute → SpellsMinute text minute
unfolding minute_text day_text month_text
minute_text_spells text minute e = record {
  len = ap length e;
  year = ap (λ t. 100 * spelled t 0 + spelled t 2) e ∙ omega arith;
  number = ap (λ t. spelled t 5) e ∙ omega arith;
  day = ap (λ t. first_day (month_of minute) + spelled t 8) e ∙ omega (arith, (month_of_day_is (day_of minute)).begun);
  hour = ap (λ t. spelled t 11) e ∙ omega arith;
  past = ap (λ t. spelled t 14) e ∙ omega arith;
}

-- the day of a minute is the day number of its civil date
pub epoch_day-at : (minute : ℕ) (date : Date) (hour past : ℕ) → IsMinuteAt minute date hour past → epoch_day date ≡ pos (day_of minute)
epoch_day-at minute date hour past at = omega (arith, signed_arith, at.number, at.hour_in, at.past_in)

time_of_day-at : (minute : ℕ) (date : Date) (hour past : ℕ) → IsMinuteAt minute date hour past → minute % 1440 ≡ 60 * hour + past
time_of_day-at minute date hour past at = omega (arith, signed_arith, at.number, at.hour_in, at.past_in)

-- the text is that of the civil date and the time of day
pub minute_text-civil : (minute : ℕ) (date : Date) (hour past : ℕ) → IsMinuteAt minute date hour past → IsMonthAt (month_of minute) date → minute_text minute ≡ civil_text date hour past
unfolding minute_text day_text month_text
minute_text-civil minute date hour past at month =
    let time = time_of_day-at minute date hour past at in
    let number = day_of_month date (day_of minute) (month_of minute) (epoch_day-at minute date hour past at) month in
    let day : date.day ≡ number_in_month (day_of minute) = omega (arith, number, (civil date).2.0) in
    let hours : hour ≡ minute % 1440 / 60 = omega (arith, time, at.past_in) in
    let pasts : past ≡ minute % 1440 % 60 = omega (arith, time, at.past_in) in
    rw (month.year, month.number, day, hours, pasts) refl
