-- What the minutes between two events count as, by the two events alone: what the rule of `MinuteKind` comes to, as
-- `kinds_when_an_event_comes` says.
use Rattle.std.specs.Prelude.{ℕ, ◌-◌, Bool, Option, None, Some, if◌then◌else◌}
use Rattle.duty_events.specs.declared.event.Event.{Event}
use Rattle.duty_events.specs.declared.minute_kind.MinuteKind.{MinuteKind}
use Rattle.duty_events.specs.declared.minute_kind.MinuteKind.TheVariants as minute
use Rattle.duty_events.specs.Allowed.{first_minute, last_minute}
use Rattle.duty_events.specs.MinuteKind.{first_leads, last_leads, counted, unended}
use Rattle.duty_events.specs.Minutes.{shared}

-- what the minutes from an event to the next count as
abbrev pub between : Event → Event → MinuteKind
between e next = counted (last_leads e) (first_minute next - last_minute e) (first_leads next)

-- what the minutes before an event count as that come behind the event before it; those before the first event are off
abbrev pub kind_until : Option Event → Event → MinuteKind
kind_until None next = minute.Off
kind_until (Some e) next = between e next

-- what the minutes behind the last event count as
abbrev pub kind_behind : Option Event → MinuteKind
kind_behind None = minute.Off
kind_behind (Some e) = unended (last_leads e)

-- how many of the minutes between two events, among so many from a first one on, are of a kind that is asked about
abbrev pub minutes_between : (MinuteKind → Bool) → Option Event → Event → ℕ → ℕ → ℕ
minutes_between asked None next first many = 0
minutes_between asked (Some e) next first many = if asked (between e next) then shared (last_minute e) (first_minute next) first many else 0
