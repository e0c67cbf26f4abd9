use Rattle.std.proofs.Common.{ℕ, ◌≡◌, ◌≤◌, ◌<◌, ◌+◌, ◌-◌, ◌*◌, ◌/◌, inl, inr, arith}
use Rattle.std.proofs.lemmas.Bool.{cases_lt}
use Rattle.desk_base.specs.Month.{first_day}
use Rattle.desk_base.proofs.MonthLemmas.{first_day-near, first_day-zero}
use Rattle.desk_base.proofs.civil.month_of.Goals as goal

-- what is tried first
abbrev near_to : ℕ → ℕ
near_to day = (day + 5) * 4800 / 146_097

-- where the day lies before the month that is tried, that isn't the first
is_behind : (day month : ℕ) → day < first_day month → 1 ≤ month
is_behind day month before =
    elim (cases_lt 0 month) [
      | inl some ↦ some
      | inr none ↦ let zero : month ≡ 0 = omega arith in absurd (omega (arith, rw zero at before, first_day-zero))
    ]

pub overflow_sub-result : goal.overflow_sub-result
overflow_sub-result c = is_behind c.args.day (near_to c.args.day) (omega (arith, c.if-day-first_day_of.true, c.first_day_of.ensures))

pub returns-then-day-first_day_of : goal.returns-then-day-first_day_of
returns-then-day-first_day_of c =
    let near = near_to c.args.day in
    let some = is_behind c.args.day near (omega (arith, c.if-day-first_day_of.true, c.first_day_of.ensures)) in
    let next : near - 1 + 1 ≡ near = omega (arith, some) in
    record {
      begun = omega (arith, some, c.requires, (first_day-near (near - 1) (omega (arith, c.requires))).1);
      not_over = rw next (omega (arith, c.if-day-first_day_of.true, c.first_day_of.ensures));
    }

pub returns-else-day-first_day_of : goal.returns-else-day-first_day_of
returns-else-day-first_day_of c =
    record {
      begun = omega (arith, c.if-day-first_day_of.false, c.first_day_of.ensures);
      not_over = omega (arith, c.requires, (first_day-near (near_to c.args.day + 1) (omega (arith, c.requires))).0);
    }
