-- A plan: so many minutes on duty from a report on, and behind them so many of limbo.
use Rattle.std.specs.Prelude.{ℕ, ◌+◌, Bool, ◌&&◌, nat_le}
use Rattle.duty_events.specs.declared.limits.TheConstants.{DUTY_LIMIT}
use Rattle.desk_base.specs.Month as month
use Rattle.duty_events.specs.Minutes.{minutes_where, is_within}
use Rattle.month_hours.specs.declared.plan.Plan.{Plan}

abbrev pub plan_of : ℕ → ℕ → ℕ → Plan
plan_of report duty limbo = record { report = report; duty = duty; limbo = limbo }

-- the first minute after the plan
abbrev pub end_of : Plan → ℕ
end_of p = p.report + p.duty + p.limbo

-- a minute of the plan
abbrev pub is_planned : Plan → ℕ → Bool
is_planned p t = is_within p.report (end_of p) t

-- one of its limbo, which are its last minutes
abbrev pub is_planned_limbo : Plan → ℕ → Bool
is_planned_limbo p t = is_within (p.report + p.duty) (end_of p) t

-- one of its limbo that comes twelve hours after the report or later
abbrev pub is_planned_capped : Plan → ℕ → Bool
is_planned_capped p t = is_planned_limbo p t && nat_le (p.report + DUTY_LIMIT) t

-- how many minutes of the month are the plan's, and how many are its capped limbo
unfoldable pub planned : Plan → ℕ → ℕ
planned p m = minutes_where (is_planned p) (month.first_minute m) (month.minutes_of m)

unfoldable pub planned_capped : Plan → ℕ → ℕ
planned_capped p m = minutes_where (is_planned_capped p) (month.first_minute m) (month.minutes_of m)
