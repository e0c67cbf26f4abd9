-- The month that would be over a limit with a plan, by whichever of its minutes.
use Rattle.std.specs.Prelude.{◌≡◌, ℕ, ◌+◌, ◌-◌, ◌<◌, ◌≤◌, Bool, ◌&&◌, nat_lt, Option, None, Some, if◌then◌else◌, List}
use Rattle.std.specs.Option.{option_map}
use Rattle.std.specs.List.{find, range_with_len}
use Rattle.month_hours.specs.declared.limit.TheConstants.{LIMBO_LIMIT, MONTH_LIMIT}
use Rattle.desk_base.specs.Month as month
use Rattle.desk_base.specs.Minute.{month_of}
use Rattle.duty_events.specs.declared.event.Event.{Event}
use Rattle.month_hours.specs.declared.limit.Limit.{Limit}
use Rattle.month_hours.specs.declared.limit.Limit.TheVariants as limit
use Rattle.month_hours.specs.declared.over.Over.{Over}
use Rattle.month_hours.specs.declared.plan.Plan.{Plan}
use Rattle.month_hours.specs.Capped.{capped}
use Rattle.month_hours.specs.Plan.{end_of, planned, planned_capped}
use Rattle.month_hours.specs.Used.{used}

-- 276 hours of worked minutes (21103(a)(1)), and 30 hours of limbo behind twelve hours of a tour (21103(c)(1))
abbrev pub most : Limit → ℕ
most limit.Hours = MONTH_LIMIT
most limit.Limbo = LIMBO_LIMIT

-- what counts against the limit of a month so far, and what a plan adds to it
abbrev pub so_far : Limit → List Event → ℕ → ℕ
so_far limit.Hours es m = used es m
so_far limit.Limbo es m = capped es m

abbrev pub added : Limit → Plan → ℕ → ℕ
added limit.Hours p m = planned p m
added limit.Limbo p m = planned_capped p m

-- what the month would have with the plan
abbrev pub total : Limit → List Event → Plan → ℕ → ℕ
total l es p m = so_far l es m + added l p m

-- the month with that total, where it holds a minute of the plan and has passed the limit, having so many so far
abbrev pub over_with : Limit → ℕ → Plan → ℕ → Option Over
over_with l sum p m =
    if nat_lt 0 (planned p m) && nat_lt (most l) (sum + added l p m) then Some (record { month = m; total = sum + added l p m }) else None

-- the month holds a minute of the plan, and would be over the limit with all of them
abbrev pub is_over : Limit → List Event → Plan → ℕ → Bool
is_over l es p m = nat_lt 0 (planned p m) && nat_lt (most l) (total l es p m)

-- the months from the report's to that of the plan's last minute
abbrev pub months_of : Plan → List ℕ
months_of p = range_with_len (month_of p.report) (month_of (end_of p - 1) + 1 - month_of p.report)

-- the month with its total
abbrev pub over_in : Limit → List Event → Plan → ℕ → Over
over_in l es p m = record { month = m; total = total l es p m }

-- the first of these months that would pass the limit. It is told what it is by `TellsFirst`, below
unfoldable pub first_over : Limit → List Event → Plan → Option Over
first_over l es p = option_map (over_in l es p) (find (is_over l es p) (months_of p))

abbrev pub over_month : List Event → Plan → Option Over
over_month es p = first_over limit.Hours es p

abbrev pub over_limbo : List Event → Plan → Option Over
over_limbo es p = first_over limit.Limbo es p

-- the month holds a minute of the plan, would pass the limit with that total, and no month before it that holds one would
pub record IsFirstOver (l : Limit) (es : List Event) (p : Plan) (over : Over) : Type 0 where
  pub holds : 0 < planned p over.month
  pub counts : over.total ≡ total l es p over.month
  pub passes : most l < over.total
  pub none_before : (m : ℕ) → m < over.month → 0 < planned p m → total l es p m ≤ most l

-- the first month that would pass the limit, or none: then no month that holds a minute of the plan would
abbrev pub TellsFirst : Limit → List Event → Plan → Option Over → Type 0
TellsFirst l es p None = (m : ℕ) → 0 < planned p m → total l es p m ≤ most l
TellsFirst l es p (Some over) = IsFirstOver l es p over

-- no month that holds a minute of the plan would pass the limit: of worked minutes, and of capped ones
abbrev pub KeepsHours : List Event → Plan → Type 0
KeepsHours es p = TellsFirst limit.Hours es p None

abbrev pub KeepsLimbo : List Event → Plan → Type 0
KeepsLimbo es p = TellsFirst limit.Limbo es p None

-- there is no first month over the limit just where none is
abbrev pub HoursInWords : Type 0
HoursInWords = (es : List Event) (p : Plan) → (over_month es p ≡ None → KeepsHours es p) × (KeepsHours es p → over_month es p ≡ None)

abbrev pub LimboInWords : Type 0
LimboInWords = (es : List Event) (p : Plan) → (over_limbo es p ≡ None → KeepsLimbo es p) × (KeepsLimbo es p → over_limbo es p ≡ None)

-- the month is none before the report's, and none after that of the plan's last minute
pub record IsMonthOfPlan (p : Plan) (m : ℕ) : Type 0 where
  pub from : p.report < month.first_minute (m + 1)
  pub to : month.first_minute m < end_of p
