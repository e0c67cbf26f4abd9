-- The worked minutes of a month.
use Rattle.std.specs.Prelude.{ℕ, List}
use Rattle.desk_base.specs.Month as month
use Rattle.duty_events.specs.declared.event.Event.{Event}
use Rattle.duty_events.specs.MinuteKind.{kind_of, is_worked}
use Rattle.duty_events.specs.Minutes.{minutes_where}

-- how many minutes of the month are worked: on duty, limbo or other service (21103(a)(1))
unfoldable pub used : List Event → ℕ → ℕ
used es m = minutes_where (λ t. is_worked (kind_of es t)) (month.first_minute m) (month.minutes_of m)
