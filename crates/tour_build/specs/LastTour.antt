-- The minutes of a tour: of the last that has begun, whether it has ended or not.
use Rattle.std.specs.Prelude.{ℕ, ◌^◌, Bool, true, false, ◌&&◌, nat_le, List}
use Rattle.duty_events.specs.declared.event.Event.{Event}
use Rattle.duty_events.specs.declared.minute_kind.MinuteKind.{MinuteKind}
use Rattle.duty_events.specs.declared.minute_kind.MinuteKind.TheVariants as minute
use Rattle.duty_events.specs.MinuteKind.{marks, kind_of}
use Rattle.duty_events.specs.Minutes.{minutes_where}
use Rattle.duty_events.specs.Tours.{begun_at}
use Rattle.month_hours.specs.Capped.{is_capped}

-- on duty
abbrev pub is_on_duty : MinuteKind → Bool
is_on_duty minute.OnDuty = true
is_on_duty minute.Limbo = false
is_on_duty minute.Other = false
is_on_duty minute.Off = false
is_on_duty minute.Open = false

-- the minute doesn't come before the tour
abbrev pub is_in : List Event → ℕ → Bool
is_in es t = nat_le (begun_at (marks es)) t

-- how many of so many minutes from a first one on are the tour's, and of a kind that is asked about
unfoldable pub tour_count : (MinuteKind → Bool) → List Event → ℕ → ℕ → ℕ
tour_count asked es first many = minutes_where (λ t. is_in es t && asked (kind_of es t)) first many

-- and how many are its limbo minutes that come when it has twelve hours (21103(c)(1))
unfoldable pub tour_capped : List Event → ℕ → ℕ → ℕ
tour_capped es first many = minutes_where (λ t. is_in es t && is_capped es t) first many

-- counted over all minutes
abbrev pub in_all : (ℕ → ℕ → ℕ) → ℕ
in_all counted = counted 0 (2 ^ 28)
