-- The limbo minutes of a month that count against its limit.
use Rattle.std.specs.Prelude.{ℕ, Bool, true, false, ◌&&◌, nat_le, List}
use Rattle.duty_events.specs.declared.limits.TheConstants.{DUTY_LIMIT}
use Rattle.desk_base.specs.Month as month
use Rattle.duty_events.specs.declared.event.Event.{Event}
use Rattle.duty_events.specs.declared.minute_kind.MinuteKind.{MinuteKind}
use Rattle.duty_events.specs.declared.minute_kind.MinuteKind.TheVariants as minute
use Rattle.duty_events.specs.MinuteKind.{kind_of}
use Rattle.duty_events.specs.Minutes.{minutes_where}
use Rattle.duty_events.specs.Tours.{tour_minutes}

abbrev pub is_limbo : MinuteKind → Bool
is_limbo minute.Limbo = true
is_limbo minute.OnDuty = false
is_limbo minute.Other = false
is_limbo minute.Off = false
is_limbo minute.Open = false

-- a limbo minute before which its tour has twelve hours of on-duty and limbo minutes at least
unfoldable pub is_capped : List Event → ℕ → Bool
is_capped es t = is_limbo (kind_of es t) && nat_le DUTY_LIMIT (tour_minutes es t)

-- how many of so many minutes from a first one on are such
unfoldable pub capped_minutes : List Event → ℕ → ℕ → ℕ
capped_minutes es first many = minutes_where (is_capped es) first many

-- how many minutes of the month are such (21103(c)(1))
abbrev pub capped : List Event → ℕ → ℕ
capped es m = capped_minutes es (month.first_minute m) (month.minutes_of m)
