-- The minutes up to the next event that are asked about, by a stage and a latest minute: how sums go on, and no rule.
use Rattle.std.specs.Prelude.{ℕ, ◌+◌, ◌-◌, Bool, Option, None, Some, if◌then◌else◌}
use Rattle.duty_events.specs.declared.event.Event.{Event}
use Rattle.duty_events.specs.declared.limits.TheConstants.{DUTY_LIMIT}
use Rattle.duty_events.specs.declared.minute_kind.MinuteKind.{MinuteKind}
use Rattle.duty_events.specs.declared.stage.Stage.{Stage}
use Rattle.duty_events.specs.Allowed.{first_minute}
use Rattle.duty_events.specs.During.{kind_during}
use Rattle.duty_events.specs.Minutes.{shared}
use Rattle.month_hours.specs.Capped.{is_limbo}

-- how many of them there are, among so many minutes from a first one on, where they are asked about
abbrev pub minutes_until : Bool → Option ℕ → Event → ℕ → ℕ → ℕ
minutes_until are_asked None next first many = 0
minutes_until are_asked (Some last) next first many = if are_asked then shared last (first_minute next) first many else 0

-- where they are of a kind that is asked about
abbrev pub minutes_during : (MinuteKind → Bool) → Stage → Option ℕ → Event → ℕ → ℕ → ℕ
minutes_during asked s last next first many = minutes_until (asked (kind_during s next)) last next first many

-- how many are limbo minutes that come when their tour, which has summed so many up to the latest minute, has twelve hours
abbrev pub capped_during : Stage → Option ℕ → Event → ℕ → ℕ → ℕ → ℕ
capped_during s None next sum first many = 0
capped_during s (Some last) next sum first many = if is_limbo (kind_during s next) then shared (last + (DUTY_LIMIT - sum)) (first_minute next) first many else 0
