use Rattle.std.proofs.Common.{◌≡◌, ℕ, ◌+◌, ◌*◌, ap, ◌/◌, ◌%◌, arith, Some}
use Rattle.std.proofs.lemmas.Bool.{ltb-true, ltb-false}
use Rattle.desk_base.specs.Month.{year_of, number_in_year, month_text, IsMonthInYears}
use Rattle.desk_base.proofs.ReadLemmas.{has_month, is_month_text}
use Rattle.desk_base.proofs.month.Month.read.Goals as goal
use Rattle.desk_base.proofs.month.Month.read.Goals.{in_default-via-then-text-lt7, in_default-via-else-text-lt7+then-text-lt8+in_default-1, in_default-via-else-text-lt7+else-text-lt8, After-number_of, After-number_of-2, After-number_of-3}

pub returns-in_default-clause-only : goal.returns-in_default-clause-only
returns-in_default-clause-only c = λ month in_years e.
    let has = has_month _ month e in
    absurd (elim c.in_default.branch [ in_default-via-then-text-lt7 w ↦ omega (arith, ltb-true, ltb-false, has.len) | in_default-via-else-text-lt7+then-text-lt8+in_default-1 w ↦ omega (arith, has.mark) | in_default-via-else-text-lt7+else-text-lt8 w ↦ omega (arith, ltb-true, ltb-false, has.len) ])

-- a text that is some month's gives that month's century, year and number
century_read : (c : After-number_of) (month : ℕ) → IsMonthInYears month → c.args.text.now ≡ month_text month → c.number_of.result ≡ Some 20
century_read c month in_years e =
    let century : year_of month / 100 ≡ 20 = omega arith in
    c.number_of.ensures.only 20 (omega arith) (rw century at (has_month _ month e).century)

year_read : (c : After-number_of-2) (month : ℕ) → IsMonthInYears month → c.args.text.now ≡ month_text month → c.number_of-2.result ≡ Some (year_of month % 100)
year_read c month in_years e = c.number_of-2.ensures.only (year_of month % 100) (omega arith) (has_month _ month e).year

number_read : (c : After-number_of-3) (month : ℕ) → IsMonthInYears month → c.args.text.now ≡ month_text month → c.number_of-3.result ≡ Some (number_in_year month)
number_read c month in_years e = c.number_of-3.ensures.only (number_in_year month) (omega arith) (has_month _ month e).number

pub returns-in_err-century-clause-only : goal.returns-in_err-century-clause-only
returns-in_err-century-clause-only c = λ month in_years e.
    let read = century_read (goal.at.returns-in_err-century-clause-only c).After-number_of month in_years e in
    let failed = c.in_err-century.was in cc

pub returns-in_err-past-clause-only : goal.returns-in_err-past-clause-only
returns-in_err-past-clause-only c = λ month in_years e.
    let read = year_read (goal.at.returns-in_err-past-clause-only c).After-number_of-2 month in_years e in
    let failed = c.in_err-past.was in cc

pub returns-in_err-number-clause-only : goal.returns-in_err-number-clause-only
returns-in_err-number-clause-only c = λ month in_years e.
    let read = number_read (goal.at.returns-in_err-number-clause-only c).After-number_of-3 month in_years e in
    let failed = c.in_err-number.was in cc

pub returns-then-century-ne20-clause-only : goal.returns-then-century-ne20-clause-only
returns-then-century-ne20-clause-only c = λ month in_years e.
    let at = goal.at.returns-then-century-ne20-clause-only c in
    let century_told = century_read at.After-number_of month in_years e in
    let century_was = c.in_ok-century.was in
    let century : c.in_ok-century.century ≡ 20 = cc in
    let number_told = number_read at.After-number_of-3 month in_years e in
    let number_was = c.in_ok-number.was in
    let number : c.in_ok-number.number ≡ number_in_year month = cc in
    absurd (omega (arith, century, number, c.then-century-ne20.either))

pub returns-clause-some : goal.returns-clause-some
returns-clause-some c =
    let century = c.in_ok-century.ensures.some in
    let past = c.in_ok-past.ensures.some in
    let number = c.in_ok-number.ensures.some in
    let month = 12 * (30 + c.from.result) + c.from-2.result in
    let years : c.in_ok-century.century ≡ year_of month / 100 = omega (arith, past.0) in
    let year : c.in_ok-past.past ≡ year_of month % 100 = omega (arith, past.0) in
    let number_is : c.in_ok-number.number ≡ number_in_year month = omega arith in (
      (omega arith, omega (arith, past.0)),
      is_month_text c.args.text.now month record {
        len = omega arith;
        century = rw years at century.1;
        year = rw year at past.1;
        mark = omega arith;
        number = rw number_is at number.1;
      },
    )

pub returns-clause-only : goal.returns-clause-only
returns-clause-only c = λ month in_years e.
    let at = goal.at.returns-clause-only c in
    let year_told = year_read at.After-number_of-2 month in_years e in
    let year_was = c.in_ok-past.was in
    let year : c.in_ok-past.past ≡ year_of month % 100 = cc in
    let number_told = number_read at.After-number_of-3 month in_years e in
    let number_was = c.in_ok-number.was in
    let number : c.in_ok-number.number ≡ number_in_year month = cc in
    ap Some (omega (arith, year, number))
