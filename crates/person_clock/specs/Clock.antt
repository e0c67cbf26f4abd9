-- What a person's clock stands for.
use Rattle.std.specs.Prelude.{ℕ, Option, unwrap_or, List}
use Rattle.std.specs.List.{All}
use Rattle.desk_base.specs.Window.{WindowValue, Holds}
use Rattle.duty_events.specs.declared.asked.Asked.TheVariants as asked
use Rattle.duty_events.specs.declared.event.Event.{Event}
use Rattle.duty_events.specs.declared.stage.Stage.{Stage}
use Rattle.duty_events.specs.Allowed.{first_minute, last_minute}
use Rattle.duty_events.specs.Asked.{asked_minutes}
use Rattle.duty_events.specs.Lists.{Follows}
use Rattle.month_hours.specs.Capped.{capped_minutes}
use Rattle.tour_build.specs.MonthSums.{AreSums}
use Rattle.tour_build.specs.Runs.{TotalsValue, AreTotals}
use Rattle.person_clock.specs.declared.days_clock.DaysClock.{DaysClock}
use Rattle.person_clock.specs.declared.rest_clock.RestClock.{RestClock}
use Rattle.person_clock.specs.Days.{IsDaysOf}
use Rattle.person_clock.specs.Rest.{IsRestOf}

-- the window and the person's home; the last tour, rest and days in a row; and by the window's months the worked minutes and
-- those of limbo that count against its limit
pub record ClockValue : Type 0 where
  pub window : WindowValue
  pub home : List ℕ
  pub tour : TotalsValue
  pub rest : RestClock
  pub days : DaysClock
  pub used : List ℕ
  pub capped : List ℕ

abbrev pub clock_of : WindowValue → List ℕ → TotalsValue → RestClock → DaysClock → List ℕ → List ℕ → ClockValue
clock_of window home tour rest days used capped = record { window = window; home = home; tour = tour; rest = rest; days = days; used = used; capped = capped }

-- the stage that the clock is at, and its latest minute
abbrev pub stage_now : ClockValue → Stage
stage_now c = c.tour.stage

abbrev pub last_now : ClockValue → Option ℕ
last_now c = c.tour.last

-- that minute, 0 where there is none
abbrev pub minute_of : Option ℕ → ℕ
minute_of last = unwrap_or last 0

-- the event lies in the window
abbrev pub LiesIn : WindowValue → Event → Type 0
LiesIn window e = Holds window (first_minute e) × Holds window (last_minute e)

-- the clock stands for a lawful list of events, each of which lies in the window: each of its numbers is the list's
pub record Stands (c : ClockValue) (es : List Event) : Type 0 where
  pub totals : AreTotals c.tour es
  pub lie : All (LiesIn c.window) es
  pub rested : IsRestOf c.rest es
  pub stayed : IsDaysOf c.home c.days es
  pub worked : AreSums c.window (asked_minutes asked.Worked es) c.used
  pub waited : AreSums c.window (capped_minutes es) c.capped

-- the event may come next: it is allowed and lies in the window
pub record MayTake (c : ClockValue) (e : Event) : Type 0 where
  pub follows : Follows (stage_now c) (last_now c) e
  pub lies : LiesIn c.window e
