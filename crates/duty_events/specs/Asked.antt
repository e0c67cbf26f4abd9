-- Counting the minutes of kinds that are asked about.
use Rattle.std.specs.Prelude.{ℕ, Bool, Option, List, if◌then◌else◌}
use Rattle.duty_events.specs.declared.asked.Asked.{Asked}
use Rattle.duty_events.specs.declared.asked.Asked.TheVariants as asked
use Rattle.duty_events.specs.declared.event.Event.{Event}
use Rattle.duty_events.specs.declared.minute_kind.MinuteKind.{MinuteKind}
use Rattle.duty_events.specs.declared.minute_kind.MinuteKind.TheVariants as minute
use Rattle.duty_events.specs.Allowed.{first_minute, last_minute}
use Rattle.duty_events.specs.MinuteKind.{kind_of, is_worked}
use Rattle.duty_events.specs.Between.{minutes_between}
use Rattle.duty_events.specs.Minutes.{minutes_where, shared}
use Rattle.duty_events.specs.Tours.{is_in_tour}

-- minutes that count as this are asked about
abbrev pub passes : Asked → MinuteKind → Bool
passes asked.Worked k = is_worked k
passes asked.InTour k = is_in_tour k

-- how many of so many minutes from a first one on are asked about
abbrev pub asked_minutes : Asked → List Event → ℕ → ℕ → ℕ
asked_minutes a es first many = minutes_where (λ t. passes a (kind_of es t)) first many

-- how the count goes, and no rule: those between two events, and an event's own, as other service has them
abbrev pub asked_between : Asked → Option Event → Event → ℕ → ℕ → ℕ
asked_between a before e first many = minutes_between (passes a) before e first many

abbrev pub asked_own : Asked → Event → ℕ → ℕ → ℕ
asked_own a e first many = if passes a minute.Other then shared (first_minute e) (last_minute e) first many else 0
