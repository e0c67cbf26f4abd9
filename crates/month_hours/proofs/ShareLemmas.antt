-- What a month has of a plan, and how many months that may be.
use Rattle.std.proofs.Common.{◌≡◌, ℕ, ◌+◌, ◌-◌, ◌<◌, ◌≤◌, ◌^◌, inl, inr, List, length, get_or, refl, ap, ◌∙◌, arith}
use Rattle.std.proofs.lemmas.Bool.{cases_lt}
use Rattle.std.proofs.lemmas.List.FromFn.{get_or-map-range_with_len, length-map-range_with_len}
use Rattle.desk_base.specs.Day.{day_of}
use Rattle.desk_base.specs.Minute.{month_of}
use Rattle.desk_base.specs.Month as month
use Rattle.desk_base.proofs.MonthLemmas.{month_of_day_is, first_day_mono, length_of_bounds}
use Rattle.month_hours.specs.declared.limit.Limit.{Limit}
use Rattle.month_hours.specs.declared.limit.Limit.TheVariants as limit
use Rattle.month_hours.specs.declared.month_share.MonthShare.{MonthShare}
use Rattle.month_hours.specs.declared.plan.Plan.{Plan}
use Rattle.month_hours.specs.declared.plan_months.TheConstants.{MOST_PLANNED, MOST_MONTHS}
use Rattle.month_hours.specs.Over.{over_with}
use Rattle.month_hours.specs.Plan.{end_of}
use Rattle.month_hours.specs.Shares.{share_of, shares_of, added_by, over_share}
use Rattle.month_hours.proofs.PlanLemmas.{planned-shared, planned_capped-shared}

pub over_share-with : (l : Limit) (sum : ℕ) (p : Plan) (m : ℕ) → over_share l sum (share_of p m) ≡ over_with l sum p m
over_share-with limit.Hours sum p m = refl
over_share-with limit.Limbo sum p m = refl

-- a month's minutes and a plan's are few
pub added-few : (l : Limit) (sum : ℕ) (p : Plan) (m : ℕ) → sum ≤ month.minutes_of m → sum + added_by l (share_of p m) < 2 ^ 32
added-few limit.Hours sum p m few = omega (arith, few, planned-shared p m, length_of_bounds m)
added-few limit.Limbo sum p m few = omega (arith, few, planned_capped-shared p m, length_of_bounds m)

-- a plan of so few minutes has few months
pub months-few : (p : Plan) → p.duty + p.limbo ≤ MOST_PLANNED → month_of (end_of p - 1) + 1 - month_of p.report ≤ MOST_MONTHS
months-few p few =
    let first = month_of_day_is (day_of p.report) in
    let last = month_of_day_is (day_of (end_of p - 1)) in
    elim (cases_lt (month_of p.report) (month_of (end_of p - 1))) [
      | inl before ↦ omega (arith, few, first.not_over, last.begun, first_day_mono (month_of p.report + 1) (month_of (end_of p - 1)) (omega (arith, before)))
      | inr not ↦ omega (arith, not)
    ]

pub shares_of-length : (p : Plan) (shares : List MonthShare) → shares ≡ shares_of p → length shares ≡ month_of (end_of p - 1) + 1 - month_of p.report
shares_of-length p shares are = ap length are ∙ length-map-range_with_len (share_of p) (month_of p.report) (month_of (end_of p - 1) + 1 - month_of p.report)

-- a share at some place is that of the month which comes so many after the report's, and by the last minute's
pub record IsShareAt (p : Plan) (i : ℕ) (s : MonthShare) : Type 0 where
  pub is : s ≡ share_of p (month_of p.report + i)
  pub by : month_of p.report + i < month_of (end_of p - 1) + 1

pub shares_of-at : (p : Plan) (shares : List MonthShare) (i : ℕ) (s : MonthShare) → shares ≡ shares_of p → i < length shares → s ≡ get_or shares i s → IsShareAt p i s
shares_of-at p shares i s are within at =
    let first = month_of p.report in
    let many = month_of (end_of p - 1) + 1 - first in
    let room : i < many = omega (arith, within, shares_of-length p shares are) in
    record {
      is = at ∙ ap (λ xs. get_or xs i s) are ∙ get_or-map-range_with_len (share_of p) first many i (first + i) s room refl;
      by = omega (arith, room);
    }
