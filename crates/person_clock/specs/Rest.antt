-- What a clock of rest stands for.
use Rattle.std.specs.Prelude.{◌≡◌, ℕ, ◌-◌, Bool, max, Option, None, Some, List}
use Rattle.duty_events.specs.Gauge.{Tells}
use Rattle.duty_events.specs.declared.limits.TheConstants.{DUTY_LIMIT}
use Rattle.duty_events.specs.declared.event.Event.{Event}
use Rattle.duty_events.specs.declared.tour.Tour.{Tour}
use Rattle.duty_events.specs.EndedTours.{last_tour, end_of}
use Rattle.rest_rules.specs.OffFrom.{off_from}
use Rattle.rest_rules.specs.Excess.{excess}
use Rattle.rest_rules.specs.Rest.{is_off}
use Rattle.person_clock.specs.declared.rest_clock.RestClock.{RestClock}

-- the gauge tells which minutes are off from a first one on, up to since when the person is off
pub record GaugesOff (asked : ℕ → Bool) (from : ℕ) (r : RestClock) : Type 0 where
  pub until : r.off.until ≡ max from r.off_from
  pub tells : Tells asked from r.off

-- since when the person is off, what the last tour that has ended had over twelve hours, and the minutes off since it ended
pub record IsRestOf (r : RestClock) (es : List Event) : Type 0 where
  pub since : r.off_from ≡ off_from es
  pub over : r.excess ≡ excess es
  pub gauges : GaugesOff (is_off es) (end_of (last_tour es)) r

-- a tour that ends and sums up so much, or none, makes this of where the last one ended, and of what it had over twelve hours
abbrev pub end_after : ℕ → Option Tour → ℕ
end_after end None = end
end_after end (Some tour) = tour.end

abbrev pub excess_after : ℕ → Option Tour → ℕ → ℕ
excess_after over None sum = over
excess_after over (Some tour) sum = sum - DUTY_LIMIT
