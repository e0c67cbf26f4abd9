-- What a clock of days in a row stands for.
use Rattle.std.specs.Prelude.{◌≡◌, ℕ, ◌≤◌, List}
use Rattle.duty_events.specs.Gauge.{Tells}
use Rattle.duty_events.specs.declared.event.Event.{Event}
use Rattle.duty_events.specs.EndedTours.{last_tour, end_of}
use Rattle.duty_events.specs.Lists.{last_event, reached}
use Rattle.duty_events.specs.Places.{place_of}
use Rattle.consecutive_days.specs.Days.{is_away, is_off_at_home}
use Rattle.consecutive_days.specs.Steps.{IsRunOf}
use Rattle.person_clock.specs.declared.days_clock.DaysClock.{DaysClock}

-- the days in a row; whether the last tour that has ended did so away from home; where the person is from the latest minute on;
-- and the minutes off at home since that tour ended, up to the latest
pub record IsDaysOf (home : List ℕ) (d : DaysClock) (es : List Event) : Type 0 where
  pub counts : IsRunOf d.run es
  pub away : d.is_away ≡ is_away (last_tour es) home
  pub there : (t : ℕ) → reached (last_event es) ≤ t → place_of es home t ≡ d.place
  pub until : d.at_home.until ≡ reached (last_event es)
  pub tells : Tells (is_off_at_home es home) (end_of (last_tour es)) d.at_home
