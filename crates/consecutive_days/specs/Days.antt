-- Who has had the time off that days in a row need (21103(a)(4)(A)).
use Rattle.std.specs.Prelude.{◌≡◌, ◌≢◌, ℕ, ◌+◌, ◌<◌, ◌⊎◌, ◌==◌, Bool, false, ◌&&◌, ◌||◌, nat_le, not, Option, None, Some, List}
use Rattle.std.specs.Bool.{Decides}
use Rattle.std.specs.Str.{bytes_eq}
use Rattle.consecutive_days.specs.declared.run.TheConstants.{SIX_DAYS}
use Rattle.desk_base.specs.Day.{day_of}
use Rattle.duty_events.specs.declared.event.Event.{Event}
use Rattle.duty_events.specs.declared.tour.Tour.{Tour}
use Rattle.duty_events.specs.EndedTours.{last_tour, end_of}
use Rattle.duty_events.specs.MinuteKind.{kind_of, is_off_duty}
use Rattle.duty_events.specs.Places.{place_of}
use Rattle.duty_events.specs.Stretch.{Stretch, has_stretch}
use Rattle.consecutive_days.specs.Run.{run_days, last_start, need}

-- the person is off and at home in the minute
unfoldable pub is_off_at_home : List Event → List ℕ → ℕ → Bool
is_off_at_home es home t = is_off_duty (kind_of es t) && bytes_eq (place_of es home t) home

-- so many such minutes lie in one stretch between the end of the last tour, 0 if none has ended, and a minute
abbrev pub was_off_at_home : List Event → List ℕ → ℕ → ℕ → Bool
was_off_at_home es home many to = has_stretch (is_off_at_home es home) many (end_of (last_tour es)) to

-- the longest such stretch has so many minutes: it has as many as any just where a stretch of these is there
abbrev pub TellsOffAtHome : List Event → List ℕ → ℕ → ℕ → Type 0
TellsOffAtHome es home to longest = (many : ℕ) → 0 < many → nat_le many longest ≡ was_off_at_home es home many to

-- the last tour ended away from home; false where none has ended
abbrev pub is_away : Option Tour → List ℕ → Bool
is_away None home = false
is_away (Some tour) home = not (bytes_eq tour.place home)

-- the minute lies on the day after that of the last start; false where there is none
abbrev pub is_day_after : Option ℕ → ℕ → Bool
is_day_after None t = false
is_day_after (Some start) t = day_of t == day_of start + 1

-- six days in a row of which the last ended away from home, and a report on the very next day
abbrev pub is_seventh_from_away : List Event → List ℕ → ℕ → Bool
is_seventh_from_away es home report = (run_days es == SIX_DAYS) && is_away (last_tour es) home && is_day_after (last_start es) report

-- no time off is needed, or it was had at home, or it isn't yet needed away from home
unfoldable pub days_ok : List Event → List ℕ → ℕ → Bool
days_ok es home report =
    need (run_days es) == 0 || was_off_at_home es home (need (run_days es)) report || is_seventh_from_away es home report

-- the same in other words
abbrev pub IsAway : Option Tour → List ℕ → Type 0
IsAway None home = ⊥
IsAway (Some tour) home = tour.place ≢ home

abbrev pub IsDayAfter : Option ℕ → ℕ → Type 0
IsDayAfter None t = ⊥
IsDayAfter (Some start) t = day_of t ≡ day_of start + 1

pub record IsSeventhFromAway (es : List Event) (home : List ℕ) (report : ℕ) : Type 0 where
  pub six : run_days es ≡ SIX_DAYS
  pub away : IsAway (last_tour es) home
  pub next_day : IsDayAfter (last_start es) report

-- one of the three cases holds
abbrev pub DaysOk : List Event → List ℕ → ℕ → Type 0
DaysOk es home report =
    (need (run_days es) ≡ 0) ⊎ (Stretch (is_off_at_home es home) (need (run_days es)) (end_of (last_tour es)) report ⊎ IsSeventhFromAway es home report)

-- the test of days tells these cases
abbrev pub DaysInWords : Type 0
DaysInWords = (es : List Event) (home : List ℕ) (report : ℕ) → Decides (days_ok es home report) (DaysOk es home report)
