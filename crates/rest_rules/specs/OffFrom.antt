-- Since when someone is off.
use Rattle.std.specs.Prelude.{◌≡◌, ℕ, zero, suc, ◌-◌, ◌<◌, ◌≤◌, Bool, true, false, ◌&&◌, nat_lt, if◌then◌else◌, Option, List}
use Rattle.duty_events.specs.declared.event.Event.{Event}
use Rattle.duty_events.specs.Allowed.{first_minute, last_minute}
use Rattle.duty_events.specs.Between.{kind_until}
use Rattle.duty_events.specs.Lists.{IsLawful, last_event, reached}
use Rattle.duty_events.specs.MinuteKind.{kind_of, is_worked}

-- a minute is worked
abbrev pub works : List Event → ℕ → Bool
works es t = is_worked (kind_of es t)

-- one past the last minute before another of which something holds, 0 if it holds of none
unfoldable pub past_last : (ℕ → Bool) → ℕ → ℕ
past_last holds zero = 0
past_last holds (suc t) = if holds t then suc t else past_last holds t

-- one past the last worked minute, 0 if none is; no minute is worked from the latest of the events on
unfoldable pub off_from : List Event → ℕ
off_from es = past_last (works es) (reached (last_event es))

-- the same in other words: the minute before is worked, if there is one, and none after it is
pub record IsOffFrom (es : List Event) (n : ℕ) : Type 0 where
  pub last : 0 < n → works es (n - 1) ≡ true
  pub after : (t : ℕ) → n ≤ t → works es t ≡ false

abbrev pub OffFromInWords : Type 0
OffFromInWords = (es : List Event) → IsLawful es → IsOffFrom es (off_from es)

-- how the scan goes, and no rule: where work ends that ended at a minute before those from one on and before another,
-- which are all worked or none
abbrev pub end_after : ℕ → Bool → ℕ → ℕ → ℕ
end_after end is_worked from to = if is_worked && nat_lt from to then to else end

-- what one event more makes of it: the minutes up to it count as the two events make them, and its own are other service
abbrev pub off_after : ℕ → Option Event → Event → ℕ
off_after end before e = end_after (end_after end (is_worked (kind_until before e)) (reached before) (first_minute e)) true (first_minute e) (last_minute e)
