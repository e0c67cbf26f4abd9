-- Days in a row on which tours begin, and the time off that they need.
use Rattle.std.specs.Prelude.{◌≡◌, ℕ, zero, suc, ◌+◌, ◌-◌, ◌<◌, ◌≤◌, ◌==◌, Bool, true, false, nat_lt, Option, None, Some, List, fold, if◌then◌else◌}
use Rattle.std.specs.List.{list_any}
use Rattle.consecutive_days.specs.declared.run.TheConstants.{OFF_AFTER_SEVEN_DAYS, OFF_AFTER_SIX_DAYS, SIX_DAYS}
use Rattle.desk_base.specs.Day.{day_of}
use Rattle.duty_events.specs.declared.event.Event.{Event}
use Rattle.duty_events.specs.Tours.{starts}

-- a tour begins on the day
unfoldable pub starts_on : List Event → ℕ → Bool
starts_on es day = list_any (λ t. day_of t == day) (starts es)

-- the start of the last tour that has begun
unfoldable pub last_start : List Event → Option ℕ
last_start es = fold (λ o t. Some t) None (starts es)

-- how many days in a row are such, back from the day before
unfoldable pub run_before : (ℕ → Bool) → ℕ → ℕ
run_before is_such zero = 0
run_before is_such (suc day) = if is_such day then suc (run_before is_such day) else 0

-- how many days in a row have a start, back from that of the last
abbrev pub run_from : (ℕ → Bool) → Option ℕ → ℕ
run_from has_start None = 0
run_from has_start (Some t) = run_before has_start (suc (day_of t))

unfoldable pub run_days : List Event → ℕ
run_days es = run_from (starts_on es) (last_start es)

-- the day and those before it, so many in all, are such, and the next one back is not
pub record IsRunTo (is_such : ℕ → Bool) (day many : ℕ) : Type 0 where
  pub some : 0 < many
  pub within : many ≤ day + 1
  pub each : (back : ℕ) → back < many → is_such (day - back) ≡ true
  pub stops : many ≤ day → is_such (day - many) ≡ false

-- the days in a row that have a start, to that of the last, are so many; none where no tour has begun
abbrev pub IsRun : (ℕ → Bool) → Option ℕ → ℕ → Type 0
IsRun has_start None many = many ≡ 0
IsRun has_start (Some t) many = IsRunTo has_start (day_of t) many

-- how many minutes off at home so many days in a row need: 48 hours after six, 72 from seven on (21103(a)(4)(A))
abbrev pub need : ℕ → ℕ
need run = if nat_lt run SIX_DAYS then 0 else (if run == SIX_DAYS then OFF_AFTER_SIX_DAYS else OFF_AFTER_SEVEN_DAYS)
