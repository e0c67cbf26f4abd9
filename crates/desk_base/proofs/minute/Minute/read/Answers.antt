use Rattle.std.proofs.Common.{◌≡◌, ℕ, ◌∙◌, ap, sym, ◌+◌, ◌*◌, ◌%◌, ◌/◌, ◌≤◌, arith, Some}
use Rattle.std.proofs.lemmas.Bool.{ltb-true, ltb-false}
use Rattle.desk_base.specs.Month.{month_of_day}
use Rattle.desk_base.specs.Day.{day_of, number_in_month}
use Rattle.desk_base.specs.Minute.{minute_text, month_of, IsInYears}
use Rattle.desk_base.proofs.MonthLemmas.{first_day-next, length_of_bounds, month_of_day_is, month_in_years, day_in_years}
use Rattle.desk_base.proofs.ReadLemmas.{has_time, length-minute, minute_at, month_text-in, is_month_at, is_minute_text, IsTime, HasTime}
use Rattle.desk_base.proofs.minute.Minute.read.Goals as goal
use Rattle.desk_base.proofs.minute.Minute.read.Goals.{in_default-via-then-rest-lt9, in_default-via-else-rest-lt9+then-rest-lt10+in-45+in-32+in_default-1, in_default-via-else-rest-lt9+then-rest-lt10+in-45+in_default-1, in_default-via-else-rest-lt9+then-rest-lt10+in_default-1, in_default-via-else-rest-lt9+else-rest-lt10}
use Rattle.desk_base.proofs.minute.Minute.read.Goals.{then-day-lt1-via-then-day-lt1, then-day-lt1-via-else-day-lt1+then-day-days}
use Rattle.desk_base.proofs.minute.Minute.read.Goals.{After-read, After-number_of, After-number_of-2, After-number_of-3, After-from-3}

pub returns-in_err-month-clause-only : goal.returns-in_err-month-clause-only
returns-in_err-month-clause-only c = λ minute in_years e.
    absurd (omega (arith, length-minute _ minute e, c.in_err-month.ensures.cases))

pub returns-in_default-clause-only : goal.returns-in_default-clause-only
returns-in_default-clause-only c = λ minute in_years e.
    let has = has_time _ _ minute c.in_ok-month.ensures.cases.2 e in
    absurd (elim c.in_default.branch [
      | in_default-via-then-rest-lt9 w ↦ omega (arith, ltb-true, ltb-false, has.len)
      | in_default-via-else-rest-lt9+then-rest-lt10+in-45+in-32+in_default-1 w ↦ omega (arith, has.colon)
      | in_default-via-else-rest-lt9+then-rest-lt10+in-45+in_default-1 w ↦ omega (arith, has.blank)
      | in_default-via-else-rest-lt9+then-rest-lt10+in_default-1 w ↦ omega (arith, has.mark)
      | in_default-via-else-rest-lt9+else-rest-lt10 w ↦ omega (arith, ltb-true, ltb-false, has.len)
    ])

-- a text that is some minute's gives that minute's month, day, hour and what is past the hour
month_read : (c : After-read) (minute : ℕ) → IsInYears minute → c.args.text.now ≡ minute_text minute → c.read.result ≡ Some (month_of minute)
month_read c minute in_years e =
    c.read.ensures.only (month_of minute) (month_in_years _ _ (month_of_day_is (day_of minute)) (omega arith) (omega arith)) (c.in_ok-month.ensures.cases.1 ∙ month_text-in _ minute e)

number_bound : (day : ℕ) → number_in_month day ≤ 31
number_bound day =
    omega (arith, (month_of_day_is day).not_over, first_day-next (month_of_day day), (length_of_bounds (month_of_day day)).1)

day_read : (c : After-number_of) (minute : ℕ) → c.args.text.now ≡ minute_text minute → c.number_of.result ≡ Some (number_in_month (day_of minute))
day_read c minute e =
    c.number_of.ensures.only _ (omega (arith, number_bound (day_of minute))) (has_time _ _ minute c.in_ok-month.ensures.cases.2 e).day

hour_read : (c : After-number_of-2) (minute : ℕ) → c.args.text.now ≡ minute_text minute → c.number_of-2.result ≡ Some (minute % 1440 / 60)
hour_read c minute e = c.number_of-2.ensures.only _ (omega arith) (has_time _ _ minute c.in_ok-month.ensures.cases.2 e).hours

past_read : (c : After-number_of-3) (minute : ℕ) → c.args.text.now ≡ minute_text minute → c.number_of-3.result ≡ Some (minute % 1440 % 60)
past_read c minute e = c.number_of-3.ensures.only _ (omega arith) (has_time _ _ minute c.in_ok-month.ensures.cases.2 e).pasts

pub returns-in_err-month-2-clause-only : goal.returns-in_err-month-2-clause-only
returns-in_err-month-2-clause-only c = λ minute in_years e.
    let read = month_read (goal.at.returns-in_err-month-2-clause-only c).After-read minute in_years e in
    let failed = c.in_err-month-2.was in cc

pub returns-in_err-day-clause-only : goal.returns-in_err-day-clause-only
returns-in_err-day-clause-only c = λ minute in_years e.
    let read = day_read (goal.at.returns-in_err-day-clause-only c).After-number_of minute e in
    let failed = c.in_err-day.was in cc

pub returns-in_err-hour-clause-only : goal.returns-in_err-hour-clause-only
returns-in_err-hour-clause-only c = λ minute in_years e.
    let read = hour_read (goal.at.returns-in_err-hour-clause-only c).After-number_of-2 minute e in
    let failed = c.in_err-hour.was in cc

pub returns-in_err-past-clause-only : goal.returns-in_err-past-clause-only
returns-in_err-past-clause-only c = λ minute in_years e.
    let read = past_read (goal.at.returns-in_err-past-clause-only c).After-number_of-3 minute e in
    let failed = c.in_err-past.was in cc

pub returns-then-day-lt1-clause-only : goal.returns-then-day-lt1-clause-only
returns-then-day-lt1-clause-only c = λ minute in_years e.
    let at = goal.at.returns-then-day-lt1-clause-only c in
    let is = month_of_day_is (day_of minute) in
    let month_told = month_read at.After-read minute in_years e in
    let month_was = c.in_ok-month-2.was in
    let month : c.in_ok-month-2.month ≡ month_of minute = cc in
    let day_told = day_read at.After-number_of minute e in
    let day_was = c.in_ok-day.was in
    let day : c.in_ok-day.day ≡ number_in_month (day_of minute) = cc in
    absurd (elim c.then-day-lt1.branch [
      | then-day-lt1-via-then-day-lt1 w ↦ omega (arith, day, w.if-day-lt1)
      | then-day-lt1-via-else-day-lt1+then-day-days w ↦ let next = rw month at w.days.ensures.next in omega (arith, day, w.if-day-days, next, is.begun, is.not_over)
    ])

pub returns-then-hour-gt23-clause-only : goal.returns-then-hour-gt23-clause-only
returns-then-hour-gt23-clause-only c = λ minute in_years e.
    let at = goal.at.returns-then-hour-gt23-clause-only c in
    let hour_told = hour_read at.After-number_of-2 minute e in
    let hour_was = c.in_ok-hour.was in
    let hour : c.in_ok-hour.hour ≡ minute % 1440 / 60 = cc in
    let past_told = past_read at.After-number_of-3 minute e in
    let past_was = c.in_ok-past.was in
    let past : c.in_ok-past.past ≡ minute % 1440 % 60 = cc in
    absurd (omega (arith, hour, past, c.then-hour-gt23.either))

-- what was read is a day of the month and a time of the day
is_time : (c : After-from-3) → IsTime c.in_ok-month-2.month c.in_ok-day.day c.in_ok-hour.hour c.in_ok-past.past
is_time c = record {
  first = omega arith;
  last = omega (arith, c.days.ensures.next, first_day-next c.in_ok-month-2.month);
  hours = omega arith;
  pasts = omega arith;
}

-- of the years 2000 to 2099
in_years : (c : After-from-3) → IsInYears (minute_at c.in_ok-month-2.month c.in_ok-day.day c.in_ok-hour.hour c.in_ok-past.past)
in_years c =
    let days = day_in_years _ c.in_ok-month-2.month (is_month_at _ _ _ _ (is_time c)) (c.in_ok-month-2.ensures.some).0 in
    (omega (arith, days.0), omega (arith, days.1))

-- the minute that is answered
minute_is : (c : After-from-3) → c.first.result + (1440 * c.from-3.result + (60 * c.from.result + c.from-2.result)) ≡ minute_at c.in_ok-month-2.month c.in_ok-day.day c.in_ok-hour.hour c.in_ok-past.past
minute_is c = omega (arith, c.first.ensures, c.from.ensures, c.from-2.ensures, c.from-3.ensures)

pub after-requires : goal.after-requires
after-requires c = omega (arith, minute_is c, (in_years c).1)

pub returns-clause-some : goal.returns-clause-some
returns-clause-some c =
    let at = (goal.at.returns-clause-some c).After-from-3 in
    let is : c.after.result ≡ minute_at c.in_ok-month-2.month c.in_ok-day.day c.in_ok-hour.hour c.in_ok-past.past = c.after.ensures ∙ minute_is at in
    let has : HasTime c.in_ok-month.rest.now c.in_ok-day.day c.in_ok-hour.hour c.in_ok-past.past = record {
      len = omega arith;
      mark = omega arith;
      day = c.in_ok-day.ensures.some.1;
      blank = omega arith;
      hours = c.in_ok-hour.ensures.some.1;
      colon = omega arith;
      pasts = c.in_ok-past.ensures.some.1;
    } in
    let cases = c.in_ok-month.ensures.cases in
    let front = sym cases.1 ∙ c.in_ok-month-2.ensures.some.1 in
    let text = is_minute_text c.args.text.now _ _ _ _ (is_time at) front (rw cases.2 at has) in
    rw is (in_years at, text)

pub returns-clause-only : goal.returns-clause-only
returns-clause-only c = λ minute years e.
    let at = goal.at.returns-clause-only c in
    let month_told = month_read at.After-read minute years e in
    let month_was = c.in_ok-month-2.was in
    let month : c.in_ok-month-2.month ≡ month_of minute = cc in
    let day_told = day_read at.After-number_of minute e in
    let day_was = c.in_ok-day.was in
    let day : c.in_ok-day.day ≡ number_in_month (day_of minute) = cc in
    let hour_told = hour_read at.After-number_of-2 minute e in
    let hour_was = c.in_ok-hour.was in
    let hour : c.in_ok-hour.hour ≡ minute % 1440 / 60 = cc in
    let past_told = past_read at.After-number_of-3 minute e in
    let past_was = c.in_ok-past.was in
    let past : c.in_ok-past.past ≡ minute % 1440 % 60 = cc in
    let is = rw (month, day, hour, past) at (c.after.ensures ∙ minute_is at.After-from-3) in
    ap Some (is ∙ omega (arith, (month_of_day_is (day_of minute)).begun))
