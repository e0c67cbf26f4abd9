-- Off and at home, one event more.
use Rattle.std.proofs.Common.{◌≡◌, ℕ, ◌<◌, ◌≤◌, false, ◌&&◌, List, [], ◌∷◌, ◌++◌, refl}
use Rattle.std.specs.Str.{bytes_eq}
use Rattle.duty_events.specs.declared.event.Event.{Event}
use Rattle.duty_events.specs.Allowed.{first_minute, last_minute}
use Rattle.duty_events.specs.Lists.{IsNext, IsLawful, stage_of, last_event, reached}
use Rattle.duty_events.specs.MinuteKind.{is_off_duty}
use Rattle.duty_events.specs.Between.{kind_until, kind_behind}
use Rattle.duty_events.specs.Places.{place_of, place_until}
use Rattle.duty_events.proofs.EventLemmas.{kind_of-stays, kind_of-until, kind_of-within, kind_of-behind}
use Rattle.duty_events.proofs.PlaceLemmas.{place_of-stays, place_of-until}
use Rattle.consecutive_days.specs.Days.{is_off_at_home}

-- someone is at a place from a list's latest minute on
abbrev pub IsAt : List Event → List ℕ → List ℕ → Type 0
IsAt es home place = (t : ℕ) → reached (last_event es) ≤ t → place_of es home t ≡ place

-- before the latest minute, from there to the event, and the event's own
pub at_home-stays : (es : List Event) (e : Event) → IsLawful es → IsNext es e → (home : List ℕ) (t : ℕ) → t < reached (last_event es) → is_off_at_home (es ++ e ∷ []) home t ≡ is_off_at_home es home t
unfolding is_off_at_home
at_home-stays es e lawful next home t early = rw (kind_of-stays es e lawful next t early, place_of-stays es e lawful next home t early) refl

pub at_home-until : (es : List Event) (e : Event) → IsLawful es → IsNext es e → (home place : List ℕ) → IsAt es home place → (t : ℕ) → reached (last_event es) ≤ t → t < first_minute e
    → is_off_at_home (es ++ e ∷ []) home t ≡ (is_off_duty (kind_until (last_event es) e) && bytes_eq (place_until (stage_of es) e place) home)
unfolding is_off_at_home
at_home-until es e lawful next home place at t from to =
    rw (kind_of-until es e lawful next t from to, place_of-until es e lawful next home t from to, at t from) refl

pub at_home-own : (es : List Event) (e : Event) → IsLawful es → IsNext es e → (home : List ℕ) (t : ℕ) → first_minute e ≤ t → t < last_minute e → is_off_at_home (es ++ e ∷ []) home t ≡ false
unfolding is_off_at_home
at_home-own es e lawful next home t from to = rw (kind_of-within es e lawful next t from to) refl

-- with no event more
pub at_home-behind : (es : List Event) (home place : List ℕ) → IsLawful es → IsAt es home place → (t : ℕ) → reached (last_event es) ≤ t
    → is_off_at_home es home t ≡ (is_off_duty (kind_behind (last_event es)) && bytes_eq place home)
unfolding is_off_at_home
at_home-behind es home place lawful at t late = rw (kind_of-behind es lawful t late, at t late) refl
