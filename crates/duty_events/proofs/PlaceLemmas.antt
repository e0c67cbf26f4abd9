-- Where someone is after one event more.
use Rattle.std.proofs.Common.{◌≡◌, ℕ, ◌<◌, ◌≤◌, Bool, true, false, nat_le, if◌then◌else◌, Option, None, Some, unwrap_or, IsOk, List, [], ◌∷◌, ◌++◌, reverse, fold, refl, sym, ap, ◌∙◌, arith, append_assoc}
use Rattle.std.specs.Option.{option_map, option_to_list}
use Rattle.std.specs.List.{find}
use Rattle.std.proofs.lemmas.Bool.{false≢true, le-leb, lt-leb}
use Rattle.std.proofs.lemmas.List.{append-nil, reverse-append}
use Rattle.duty_events.specs.declared.event.Event.{Event}
use Rattle.duty_events.specs.declared.stage.Stage.{Stage}
use Rattle.duty_events.specs.declared.stage.Stage.TheVariants as stage
use Rattle.duty_events.specs.declared.end.End.{End}
use Rattle.duty_events.specs.declared.event.Event.TheVariants as event
use Rattle.duty_events.specs.Allowed.{first_minute, last_minute, allow}
use Rattle.duty_events.specs.Lists.{IsNext, IsLawful, stage_after, stage_of, last_event, latest, reached}
use Rattle.duty_events.specs.Places.{end_by, ends_from, place_of, place_by, place_until, place_behind}
use Rattle.duty_events.proofs.EventLemmas.{follows-reached}
use Rattle.duty_events.proofs.ListLemmas.{stage_of-push, last_event-push, lawful-induction}

ends_from-push : (s : Stage) (es : List Event) (e : Event) → ends_from s (es ++ e ∷ []) ≡ ends_from s es ++ option_to_list (end_by (fold stage_after s es) e)
ends_from-push s [] e = append-nil (option_to_list (end_by s e))
ends_from-push s (x ∷ es) e =
    ap (λ xs. option_to_list (end_by s x) ++ xs) (ends_from-push (stage_after s x) es e)
    ∙ sym (append_assoc (option_to_list (end_by s x)) (ends_from (stage_after s x) es) (option_to_list (end_by (fold stage_after (stage_after s x) es) e)))

-- the place that a list of ends gives
abbrev placed : List End → List ℕ → ℕ → List ℕ
placed xs home t = unwrap_or (option_map (λ x. x.place) (find (λ x. nat_le x.at t) (reverse xs))) home

placed-push : (xs : List End) (o : Option End) (home : List ℕ) (t : ℕ) → placed (xs ++ option_to_list o) home t ≡ place_by o (placed xs home t) t
placed-push xs None home t = ap (λ ys. placed ys home t) (append-nil xs)
placed-push xs (Some x) home t =
    ap (λ ys. unwrap_or (option_map (λ y. y.place) (find (λ y. nat_le y.at t) ys)) home) (reverse-append xs (x ∷ [])) ∙ go (nat_le x.at t)
  where
    go : (b : Bool) → unwrap_or (option_map (λ y. y.place) (if b then Some x else find (λ y. nat_le y.at t) (reverse xs))) home ≡ (if b then x.place else placed xs home t)
    go true = refl
    go false = refl

pub place_of-push : (es : List Event) (e : Event) (home : List ℕ) (t : ℕ) → place_of (es ++ e ∷ []) home t ≡ place_by (end_by (stage_of es) e) (place_of es home t) t
unfolding place_of
place_of-push es e home t = ap (λ xs. placed xs home t) (ends_from-push stage.Off es e) ∙ placed-push (ends_from stage.Off es) (end_by (stage_of es) e) home t

pub place_of-nil : (home : List ℕ) (t : ℕ) → place_of [] home t ≡ home
unfolding place_of
place_of-nil home t = refl

-- an interim that has not ended began at that minute
abbrev pub IsSince : Stage → ℕ → Type 0
IsSince (stage.Interim k since at) t = since ≡ t
IsSince s t = Unit {0}

-- an interim that runs began with the last event
abbrev pub BeganLast : Stage → Option Event → Type 0
BeganLast (stage.Interim k since at) o = o ≡ Some (event.Interim since k at)
BeganLast s o = Unit {0}

-- so it is after an event that is allowed
began-after : (e : Event) (s : Stage) (last : Option ℕ) → IsOk (allow s e last) → BeganLast (stage_after s e) (Some e)
began-after (event.Interim t k place) stage.Duty last ok = refl
began-after (event.Interim t j place) (stage.Interim k since at) last ok = absurd (false≢true ok)
began-after (event.Ride t) (stage.Interim k since at) last ok = absurd (false≢true ok)
began-after (event.Duty t) (stage.Interim k since at) last ok = absurd (false≢true ok)
began-after (event.Relieve t) (stage.Interim k since at) last ok = absurd (false≢true ok)
began-after (event.RideHome t) (stage.Interim k since at) last ok = absurd (false≢true ok)
began-after (event.Other span place) (stage.Interim k since at) last ok = absurd (false≢true ok)
began-after (event.Resume t) (stage.Interim k since at) last ok = tt
began-after (event.Final t place) (stage.Interim k since at) last ok = tt
began-after e s last ok = tt

pub began_last : (es : List Event) → IsLawful es → BeganLast (stage_of es) (last_event es)
began_last es lawful =
    lawful-induction (λ xs. BeganLast (stage_of xs) (last_event xs)) tt
    (λ old e before next was. rw (stage_of-push old e, last_event-push old e) (began-after e (stage_of old) (latest old) next.allowed))
    es lawful

pub since_of : (es : List Event) → IsLawful es → IsSince (stage_of es) (reached (last_event es))
since_of es lawful = go (stage_of es) (last_event es) (began_last es lawful)
  where
    go : (s : Stage) (o : Option Event) → BeganLast s o → IsSince s (reached o)
    go (stage.Interim k since at) o is = ap reached (sym is)
    go s o is = tt

-- the place of an end that comes by the minute, and of one that comes later
by-later : (at t : ℕ) (place other : List ℕ) → t < at → (if nat_le at t then place else other) ≡ other
by-later at t place other early = rw (lt-leb at t early) refl

by-then : (at t : ℕ) (place other : List ℕ) → at ≤ t → (if nat_le at t then place else other) ≡ place
by-then at t place other late = rw (le-leb at t late) refl

-- what an event makes of the place: before the latest minute it stays
place-stays : (s : Stage) (e : Event) (m t : ℕ) (other : List ℕ) → IsSince s m → m ≤ first_minute e → first_minute e ≤ last_minute e → t < m → place_by (end_by s e) other t ≡ other
place-stays (stage.Interim k since at) (event.Final u named) m t other is order whole early = by-later since t named other (omega (arith, is, early))
place-stays s (event.Final u named) m t other is order whole early = by-later u t named other (omega (arith, order, early))
place-stays s (event.Other span named) m t other is order whole early = by-later span.to t named other (omega (arith, order, whole, early))
place-stays s e m t other is order whole early = refl

-- from there to the event
place-until : (s : Stage) (e : Event) (m t : ℕ) (other : List ℕ) → IsSince s m → first_minute e ≤ last_minute e → m ≤ t → t < first_minute e → place_by (end_by s e) other t ≡ place_until s e other
place-until (stage.Interim k since at) (event.Final u named) m t other is whole from to = by-then since t named other (omega (arith, is, from))
place-until s (event.Final u named) m t other is whole from to = by-later u t named other to
place-until s (event.Other span named) m t other is whole from to = by-later span.to t named other (omega (arith, whole, to))
place-until s e m t other is whole from to = refl

-- and behind it
place-behind : (s : Stage) (e : Event) (m t : ℕ) (other : List ℕ) → IsSince s m → m ≤ first_minute e → last_minute e ≤ t → place_by (end_by s e) other t ≡ place_behind e other
place-behind (stage.Interim k since at) (event.Final u named) m t other is order late = by-then since t named other (omega (arith, is, order, late))
place-behind s (event.Final u named) m t other is order late = by-then u t named other late
place-behind s (event.Other span named) m t other is order late = by-then span.to t named other late
place-behind s e m t other is order late = refl

-- one event more, before the latest minute, from there to the event, and behind it
pub place_of-stays : (es : List Event) (e : Event) → IsLawful es → IsNext es e → (home : List ℕ) (t : ℕ) → t < reached (last_event es) → place_of (es ++ e ∷ []) home t ≡ place_of es home t
place_of-stays es e lawful next home t early =
    place_of-push es e home t
    ∙ place-stays (stage_of es) e (reached (last_event es)) t (place_of es home t) (since_of es lawful) (follows-reached (last_event es) (stage_of es) e next) next.whole early

pub place_of-until : (es : List Event) (e : Event) → IsLawful es → IsNext es e → (home : List ℕ) (t : ℕ) → reached (last_event es) ≤ t → t < first_minute e
    → place_of (es ++ e ∷ []) home t ≡ place_until (stage_of es) e (place_of es home t)
place_of-until es e lawful next home t from to =
    place_of-push es e home t ∙ place-until (stage_of es) e (reached (last_event es)) t (place_of es home t) (since_of es lawful) next.whole from to

pub place_of-behind : (es : List Event) (e : Event) → IsLawful es → IsNext es e → (home : List ℕ) (t : ℕ) → last_minute e ≤ t → place_of (es ++ e ∷ []) home t ≡ place_behind e (place_of es home t)
place_of-behind es e lawful next home t late =
    place_of-push es e home t
    ∙ place-behind (stage_of es) e (reached (last_event es)) t (place_of es home t) (since_of es lawful) (follows-reached (last_event es) (stage_of es) e next) late
