-- Sums by the months of a window that a limit on a month's minutes asks about.
use Rattle.std.specs.Prelude.{◌≡◌, ℕ, ◌+◌, ◌-◌, ◌<◌, ◌≤◌, List, get_or}
use Rattle.desk_base.specs.Month.{minutes_of}
use Rattle.desk_base.specs.Window.{WindowValue}
use Rattle.duty_events.specs.declared.event.Event.{Event}
use Rattle.month_hours.specs.declared.limit.Limit.{Limit}
use Rattle.month_hours.specs.Over.{so_far}

-- what counts against the limit by a list of events is, in each month of the window, the sum at its place, and nothing before
-- the window
pub record AreSoFar (limit : Limit) (window : WindowValue) (sums : List ℕ) (es : List Event) : Type 0 where
  pub at : (month : ℕ) → window.first ≤ month → month < window.first + window.months → get_or sums (month - window.first) 0 ≡ so_far limit es month
  pub before : (month : ℕ) → month < window.first → so_far limit es month ≡ 0
  pub most : (month : ℕ) → so_far limit es month ≤ minutes_of month
