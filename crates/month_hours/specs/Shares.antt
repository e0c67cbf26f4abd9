-- What each month of a plan has of it.
use Rattle.std.specs.Prelude.{◌≡◌, ℕ, ◌≤◌, take, ◌+◌, ◌&&◌, nat_lt, Option, None, Some, if◌then◌else◌, List, map}
use Rattle.month_hours.specs.declared.limit.Limit.{Limit}
use Rattle.month_hours.specs.declared.limit.Limit.TheVariants as limit
use Rattle.month_hours.specs.declared.month_share.MonthShare.{MonthShare}
use Rattle.month_hours.specs.declared.over.Over.{Over}
use Rattle.month_hours.specs.declared.plan.Plan.{Plan}
use Rattle.month_hours.specs.declared.plan_months.TheConstants.{MOST_MONTHS}
use Rattle.month_hours.specs.Over.{most, months_of}
use Rattle.month_hours.specs.Plan.{planned, planned_capped}

-- how many minutes of the month are the plan's, and how many are its capped limbo
abbrev pub share_of : Plan → ℕ → MonthShare
share_of p m = record { month = m; planned = planned p m; capped = planned_capped p m }

-- those of the months from the report's to that of the plan's last minute
abbrev pub shares_of : Plan → List MonthShare
shares_of p = map (share_of p) (months_of p)

-- what a month's share adds to what counts against the limit
abbrev pub added_by : Limit → MonthShare → ℕ
added_by limit.Hours s = s.planned
added_by limit.Limbo s = s.capped

-- the month with its total, where it holds a minute of the plan and has passed the limit, having so many so far
abbrev pub over_share : Limit → ℕ → MonthShare → Option Over
over_share l sum s =
    if nat_lt 0 s.planned && nat_lt (most l) (sum + added_by l s) then Some (record { month = s.month; total = sum + added_by l s }) else None

-- so many of them, from the first on, are those of the plan
pub record AreShares (p : Plan) (many : ℕ) (shares : List MonthShare) : Type 0 where
  pub most : many ≤ MOST_MONTHS
  pub are : take many shares ≡ shares_of p
