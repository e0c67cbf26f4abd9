-- What one event more makes of the days in a row: how the scan goes, and no rule.
use Rattle.std.specs.Prelude.{◌≡◌, ℕ, ◌+◌, ◌==◌, ◌&&◌, nat_lt, Option, None, Some, List, if◌then◌else◌}
use Rattle.desk_base.specs.Day.{day_of}
use Rattle.duty_events.specs.declared.event.Event.{Event}
use Rattle.consecutive_days.specs.declared.run.Run.{Run}
use Rattle.consecutive_days.specs.Run.{run_days, last_start}

-- the day of the last start, 0 if there is none
abbrev pub last_day : Option ℕ → ℕ
last_day None = 0
last_day (Some t) = day_of t

-- so many days in a row up to a last one, and a start on a day from then on
abbrev pub next_run : ℕ → ℕ → ℕ → ℕ
next_run days last day = if nat_lt 0 days && (day == last) then days else (if nat_lt 0 days && (day == last + 1) then days + 1 else 1)

-- days in a row that are a list's
pub record IsRunOf (run : Run) (es : List Event) : Type 0 where
  pub days : run.days ≡ run_days es
  pub last : run.last ≡ last_day (last_start es)
