-- Rest: ten hours off, longer by the excess of the last tour (21103(a)(3), (c)(4) and (e)).
use Rattle.std.specs.Prelude.{◌≡◌, ℕ, ◌+◌, ◌<◌, ◌≤◌, ◌⊎◌, Bool, false, ◌&&◌, ◌||◌, nat_eq, nat_le, if◌then◌else◌, List}
use Rattle.rest_rules.specs.declared.rest.TheConstants.{REST}
use Rattle.std.specs.Bool.{Decides}
use Rattle.duty_events.specs.Stretch.{Stretch, has_stretch}
use Rattle.duty_events.specs.declared.event.Event.{Event}
use Rattle.duty_events.specs.Lists.{IsLawful}
use Rattle.duty_events.specs.MinuteKind.{kind_of, is_off_duty}
use Rattle.duty_events.specs.EndedTours.{last_tour, end_of}
use Rattle.rest_rules.specs.OffFrom.{works, off_from}
use Rattle.rest_rules.specs.Excess.{excess}

-- a minute is off
abbrev pub is_off : List Event → ℕ → Bool
is_off es t = is_off_duty (kind_of es t)

-- so many minutes off lie in one stretch between the end of the last tour, 0 if none has ended, and a minute
abbrev pub was_off : List Event → ℕ → ℕ → Bool
was_off es many to = has_stretch (is_off es) many (end_of (last_tour es)) to

-- whether someone has rested at a minute, ten hours and so many minutes more: no minute is worked; or the last worked one
-- is ten hours ago at least, and they were off for as long as is asked since the last tour ended
abbrev pub rest_ok : List Event → ℕ → ℕ → Bool
rest_ok es at more = nat_eq (off_from es) 0 || (nat_le (off_from es + REST) at && was_off es (REST + more) at)

-- the minute at which rest ends: ten hours after the last worked minute, where the excess of the last tour was taken
-- before; else as much later as the excess is
abbrev pub rest_end : List Event → ℕ
rest_end es =
    if nat_eq (off_from es) 0 then 0
    else if was_off es (REST + excess es) (off_from es) then off_from es + REST
    else off_from es + REST + excess es

-- the two cases of rest in other words
pub record HasRested (es : List Event) (at more : ℕ) : Type 0 where
  pub ten_hours : off_from es + REST ≤ at
  pub stretch : Stretch (is_off es) (REST + more) (end_of (last_tour es)) at

abbrev pub RestOk : List Event → ℕ → ℕ → Type 0
RestOk es at more = ((t : ℕ) → works es t ≡ false) ⊎ HasRested es at more

-- the law of rest: before its end nobody has rested, with the excess; from its end on they have, unless the last worked
-- minute comes before the end of the last tour, as where that closed with no minutes
pub record EndsRest (es : List Event) (end : ℕ) : Type 0 where
  pub before : (t : ℕ) → t < end → RestOk es t (excess es) → ⊥
  pub from : end_of (last_tour es) ≤ off_from es → (t : ℕ) → end ≤ t → RestOk es t (excess es)

-- the test of rest tells its cases
abbrev pub RestInWords : Type 0
RestInWords = (es : List Event) (at more : ℕ) → IsLawful es → Decides (rest_ok es at more) (RestOk es at more)
