-- What one event more adds, among so many minutes from a first one on, by it and the event before it: how the scans go,
-- and no rule.
use Rattle.std.specs.Prelude.{ℕ, ◌+◌, ◌-◌, Option, None, Some, if◌then◌else◌}
use Rattle.duty_events.specs.declared.limits.TheConstants.{DUTY_LIMIT}
use Rattle.duty_events.specs.declared.event.Event.{Event}
use Rattle.duty_events.specs.declared.stage.Stage.{Stage}
use Rattle.duty_events.specs.Allowed.{first_minute, last_minute}
use Rattle.duty_events.specs.Between.{between}
use Rattle.duty_events.specs.MinuteKind.{begins}
use Rattle.duty_events.specs.Minutes.{shared}
use Rattle.duty_events.specs.Tours.{tour_minutes_between}
use Rattle.month_hours.specs.Capped.{is_limbo}

-- how many limbo minutes between two events come when their tour, which has summed so many up to the first event, has
-- summed twelve hours
abbrev pub capped_between : Option Event → Event → ℕ → ℕ → ℕ → ℕ
capped_between None next sum first many = 0
capped_between (Some e) next sum first many = if is_limbo (between e next) then shared (last_minute e + (DUTY_LIMIT - sum)) (first_minute next) first many else 0

-- what the last tour has summed up to an event that comes at a stage
abbrev pub sum_after : Stage → Option Event → Event → ℕ → ℕ
sum_after s before e sum = if begins s e then 0 else sum + tour_minutes_between before e
