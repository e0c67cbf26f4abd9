-- How months follow one another, and which of them has begun by a day.
use Rattle.std.proofs.Common.{◌≡◌, ℕ, zero, suc, ◌+◌, ◌-◌, ◌*◌, ◌/◌, ◌%◌, ◌<◌, ◌≤◌, inl, inr, nat_le, refl, arith, pos, add-one}
use Rattle.std.proofs.lemmas.Bool.{cases_lt, cases_order, cond_both, leb-true, leb-false}
use Rattle.jiff_core.specs.Calendar.{day_count, days_in_month}
use Rattle.jiff_core.proofs.SignedLemmas.{signed_arith}
use Rattle.jiff_core.proofs.CalendarLemmas.{day_count-epoch, day_count-next_month, day_count-next_year, day_count-last_of_year, day_count-day, days_in_month_bounds}
use Rattle.jiff_core.proofs.MarchLemmas.{day_count-early, day_count-late}
use Rattle.desk_base.specs.Month.{year_of, number_in_year, first_day, latest_month, month_of_day, IsMonthOf, IsMonthInYears}

-- the day count of the month's first day
abbrev pub first_count : ℕ → ℕ
first_count month = day_count (pos (year_of month)) (number_in_year month) 1

-- the days of the month
abbrev pub length_of : ℕ → ℕ
length_of month = days_in_month (pos (year_of month)) (number_in_year month)

first_count-within : (month : ℕ) → month % 12 < 11 → first_count (month + 1) ≡ first_count month + length_of month
first_count-within month h =
    let year : (month + 1) / 12 ≡ month / 12 = omega arith in
    let number : (month + 1) % 12 ≡ month % 12 + 1 = omega arith in
    rw (year, number) (day_count-next_month (pos (year_of month)) (number_in_year month) (omega arith))

first_count-december : (month : ℕ) → month % 12 ≡ 11 → first_count (month + 1) ≡ first_count month + length_of month
first_count-december month h =
    let year : (month + 1) / 12 ≡ month / 12 + 1 = omega arith in
    let number : (month + 1) % 12 ≡ 0 = omega arith in
    let y = pos (year_of month) in
    let sum : 1970 + (month / 12 + 1) ≡ year_of month + 1 = omega arith in
    rw (year, number, sum, h) (omega (arith, day_count-next_year y (pos (year_of month + 1)) (omega (arith, signed_arith)) refl, day_count-last_of_year y, day_count-day y 12 1 31 (omega arith) (omega arith)))

pub first_count-next : (month : ℕ) → first_count (month + 1) ≡ first_count month + length_of month
first_count-next month =
    elim (cases_lt (month % 12) 11) [ inl within ↦ first_count-within month within | inr last ↦ first_count-december month (omega arith) ]

pub length_of_bounds : (month : ℕ) → (28 ≤ length_of month) × (length_of month ≤ 31)
length_of_bounds month =
    let b = days_in_month_bounds (pos (year_of month)) (number_in_year month) in (b.1, b.0)

first_count_low : (month : ℕ) → 4_371_953 ≤ first_count month
first_count_low zero = omega (arith, day_count-epoch)
first_count_low (suc month) = rw (← add-one month) (omega (arith, first_count_low month, first_count-next month))

pub first_day-count : (month : ℕ) → first_day month + 4_371_953 ≡ first_count month
unfolding first_day
first_day-count month = rw day_count-epoch (omega (arith, first_count_low month))

-- a month begins after the days of the one before
pub first_day-next : (month : ℕ) → first_day (month + 1) ≡ first_day month + length_of month
first_day-next month =
    omega (arith, first_day-count month, first_day-count (month + 1), first_count-next month)

-- so k months are 28 k days at least
pub first_day-add : (month k : ℕ) → first_day month + 28 * k ≤ first_day (month + k)
first_day-add month zero = let same : month + 0 ≡ month = omega arith in rw same (omega arith)
first_day-add month (suc k) =
    let next : month + suc k ≡ month + k + 1 = omega arith in
    rw next (omega (arith, first_day-add month k, first_day-next (month + k), length_of_bounds (month + k)))

pub first_day_mono : (month later : ℕ) → month ≤ later → first_day month + 28 * (later - month) ≤ first_day later
first_day_mono month later h =
    let same : month + (later - month) ≡ later = omega arith in
    rw same at (first_day-add month (later - month))

pub first_day-zero : first_day 0 ≡ 0
first_day-zero = omega (arith, first_day-count 0, day_count-epoch)

-- the days from 1 March 1969 to the first of a month, by years that begin in March
abbrev pub since_march : ℕ → ℕ
since_march month =
    let years = (month + 10) / 12 in
    365 * years + ((years + 1) / 4 - (years + 69) / 100 + (years + 369) / 400) + (153 * ((month + 10) % 12) + 2) / 5

pub first_day-since_march : (month : ℕ) → first_day month + 306 ≡ since_march month
first_day-since_march month =
    elim (cases_lt (month % 12) 2) [
      | inl early ↦
          let shifted = day_count-early (pos (year_of month)) (11_969 + month / 12) (number_in_year month) 1 (omega (arith, signed_arith)) (omega arith) (omega arith) (omega arith) in
          let years : (month + 10) / 12 ≡ month / 12 = omega arith in
          let in_year : (month + 10) % 12 ≡ month % 12 + 10 = omega arith in
          rw (years, in_year) (omega (arith, first_day-count month, shifted))
      | inr late ↦
          let shifted = day_count-late (pos (year_of month)) (11_970 + month / 12) (number_in_year month) 1 (omega (arith, signed_arith)) (omega arith) (omega arith) (omega arith) in
          let years : (month + 10) / 12 ≡ month / 12 + 1 = omega arith in
          let in_year : (month + 10) % 12 + 2 ≡ month % 12 = omega arith in
          let less : (month + 10) % 12 ≡ month % 12 - 2 = omega arith in
          rw (years, less) (omega (arith, first_day-count month, shifted))
    ]

-- each month begins less than five days from where it would if 4,800 of the same length had 146,097 days
pub first_day-near : (month : ℕ) → month ≤ 6126 → (146_097 * month ≤ 4_800 * (first_day month + 5)) × (4_800 * first_day month ≤ 146_097 * month + 4_800 * 5)
first_day-near month bound = (omega (arith, first_day-since_march month), omega (arith, first_day-since_march month))

-- the days on which the desk's ranges begin and end: those of January 2000 and of January 2100, and that of May 2480
pub first_day-2000 : first_day 360 ≡ 10_957
first_day-2000 = omega (arith, first_day-count 360, day_count-early (pos 2000) 11_999 1 1 refl (omega arith) (omega arith) (omega arith))

pub first_day-2100 : first_day 1560 ≡ 47_482
first_day-2100 = omega (arith, first_day-count 1560, day_count-early (pos 2100) 12_099 1 1 refl (omega arith) (omega arith) (omega arith))

pub first_day-2480 : first_day 6124 ≡ 186_395
first_day-2480 = omega (arith, first_day-count 6124, day_count-late (pos 2480) 12_480 5 1 refl (omega arith) (omega arith) (omega arith))

-- the last minute's day lies in May 2480
pub month_bound : (day month : ℕ) → IsMonthOf day month → day < 186_414 → month ≤ 6124
month_bound day month is bound =
    elim (cases_lt 6124 month) [
      | inl late ↦ absurd (omega (arith, is.begun, first_day_mono 6124 month (omega arith), first_day-2480))
      | inr within ↦ within
    ]

-- the days of the years 2000 to 2099 lie in months of those years
pub month_in_years : (day month : ℕ) → IsMonthOf day month → 10_957 ≤ day → day < 47_482 → IsMonthInYears month
month_in_years day month is low high = (
  elim (cases_lt month 360) [
    | inl early ↦ absurd (omega (arith, is.not_over, first_day_mono (month + 1) 360 (omega arith), first_day-2000))
    | inr within ↦ within
  ],
  elim (cases_lt month 1560) [
    | inl within ↦ within
    | inr late ↦ absurd (omega (arith, is.begun, first_day_mono 1560 month (omega arith), first_day-2100))
  ],
)

-- and a month of those years has days of those years alone
pub day_in_years : (day month : ℕ) → IsMonthOf day month → IsMonthInYears month → (10_957 ≤ day) × (day < 47_482)
day_in_years day month is in_years = (
  omega (arith, is.begun, first_day_mono 360 month in_years.0, first_day-2000),
  omega (arith, is.not_over, first_day_mono (month + 1) 1560 (omega (arith, in_years.1)), first_day-2100),
)

-- a day has one month
pub IsMonthOf_unique : (day a b : ℕ) → IsMonthOf day a → IsMonthOf day b → a ≡ b
IsMonthOf_unique day a b ha hb =
    elim (cases_order a b) [
      | inl same ↦ same
      | inr apart ↦ elim apart [
        | inl lt ↦ absurd (omega (arith, ha.not_over, hb.begun, first_day_mono (a + 1) b (omega arith)))
        | inr gt ↦ absurd (omega (arith, hb.not_over, ha.begun, first_day_mono (b + 1) a (omega arith)))
      ]
    ]

-- the latest of the months up to k that has begun: it is k, or the next has not begun
latest_month-begun : (k day : ℕ) → first_day (latest_month k day) ≤ day
unfolding latest_month
latest_month-begun zero day = omega (arith, first_day-zero)
latest_month-begun (suc k) day =
    cond_both (nat_le (first_day (suc k)) day) (suc k) (latest_month k day) (λ m. first_day m ≤ day)
    (λ e. leb-true _ _ e) (λ e. latest_month-begun k day)

latest_month-not_over : (k day : ℕ) → day < first_day (k + 1) → day < first_day (latest_month k day + 1)
unfolding latest_month
latest_month-not_over zero day h = h
latest_month-not_over (suc k) day h =
    cond_both (nat_le (first_day (suc k)) day) (suc k) (latest_month k day) (λ m. day < first_day (m + 1))
    (λ e. h) (λ e. latest_month-not_over k day (rw add-one (leb-false _ _ e)))

pub month_of_day_is : (day : ℕ) → IsMonthOf day (month_of_day day)
unfolding month_of_day
month_of_day_is day = record {
  begun = latest_month-begun day day;
  not_over = latest_month-not_over day day (omega (arith, first_day_mono 0 (day + 1) (omega arith)));
}

pub month_of_day-unique : (day month : ℕ) → IsMonthOf day month → month_of_day day ≡ month
month_of_day-unique day month h = IsMonthOf_unique day (month_of_day day) month (month_of_day_is day) h
