-- What one event more makes of since when someone is off, of the minutes off, and of the last tour.
use Rattle.std.proofs.Common.{◌≡◌, ℕ, ◌-◌, ◌<◌, ◌≤◌, Bool, true, false, cond, ◌&&◌, nat_lt, max, inl, inr, Option, None, Some, IfSome, List, [], ◌∷◌, ◌++◌, refl, sym, subst, ap, ◌∙◌, arith}
use Rattle.std.specs.Option.{option_map, option_or}
use Rattle.std.proofs.lemmas.Bool.{cases_lt, lt-ltb, le-ltb}
use Rattle.duty_events.specs.Stretch.{has_stretch}
use Rattle.duty_events.proofs.StretchLemmas.{has_stretch-none}
use Rattle.duty_events.specs.declared.event.Event.{Event}
use Rattle.duty_events.specs.declared.event.Event.TheVariants as event
use Rattle.duty_events.specs.declared.stage.Stage.{Stage}
use Rattle.duty_events.specs.declared.stage.Stage.TheVariants as stage
use Rattle.duty_events.specs.declared.minute_kind.MinuteKind.{MinuteKind}
use Rattle.duty_events.specs.declared.minute_kind.MinuteKind.TheVariants as minute
use Rattle.duty_events.specs.declared.tour.Tour.{Tour}
use Rattle.duty_events.specs.Allowed.{first_minute, last_minute}
use Rattle.duty_events.specs.Between.{kind_until}
use Rattle.duty_events.specs.EndedTours.{ended, last_begun, last_tour, end_of}
use Rattle.duty_events.specs.Lists.{IsNext, IsLawful, stage_of, last_event, reached}
use Rattle.duty_events.specs.MinuteKind.{kind_of, is_worked, is_off_duty}
use Rattle.duty_events.specs.Places.{tour_end}
use Rattle.duty_events.proofs.EndedTourLemmas.{last_tour-nil, last_tour-push}
use Rattle.duty_events.proofs.EventLemmas.{follows-reached, kind_of-stays, kind_of-until}
use Rattle.duty_events.proofs.LastTourLemmas.{last_tour-ends}
use Rattle.duty_events.proofs.OffLemmas.{kind_of-known, settled}
use Rattle.duty_events.proofs.PlaceLemmas.{IsSince, BeganLast, began_last, since_of}
use Rattle.rest_rules.specs.Excess.{over_limit, excess}
use Rattle.rest_rules.specs.OffFrom.{works, off_from, end_after}
use Rattle.rest_rules.specs.Rest.{is_off}
use Rattle.rest_rules.proofs.OffFromLemmas.{off_from-is, off_from-most, off_from-push}
use Rattle.person_clock.specs.Clock.{minute_of}
use Rattle.person_clock.specs.Rest.{end_after as tour_end_after, excess_after}

-- ---- minutes

-- a minute before the latest that isn't worked is off, and a worked one isn't
pub off-known : (es : List Event) → IsLawful es → (t : ℕ) → t < reached (last_event es) → works es t ≡ false → is_off es t ≡ true
off-known es lawful t early not = settled (kind_of es t) (kind_of-known es lawful t early) not

pub worked-not_off : (k : MinuteKind) → is_worked k ≡ true → is_off_duty k ≡ false
worked-not_off minute.Off is = sym is
worked-not_off minute.Open is = refl
worked-not_off k is = refl

-- ---- since when someone is off

pub after-least : (end : ℕ) (are : Bool) (from to : ℕ) → end ≤ from → from ≤ to → (end ≤ end_after end are from to) × (end_after end are from to ≤ to)
after-least end are from to by order = go (are && nat_lt from to)
  where
    go : (b : Bool) → (end ≤ cond b to end) × (cond b to end ≤ to)
    go true = (omega (arith, by, order), omega arith)
    go false = (omega arith, omega (arith, by, order))

-- before an event nothing was worked since then
pub idle-until : (es : List Event) (e : Event) → IsLawful es → IsNext es e → (t : ℕ)
    → end_after (off_from es) (is_worked (kind_until (last_event es) e)) (reached (last_event es)) (first_minute e) ≤ t → t < first_minute e → works (es ++ e ∷ []) t ≡ false
idle-until es e lawful next t from to = elim (cases_lt t (reached (last_event es))) [
  | inl early ↦
      let least = (after-least (off_from es) (is_worked (kind_until (last_event es) e)) (reached (last_event es)) (first_minute e) (off_from-most es) (follows-reached (last_event es) (stage_of es) e next)).0 in
      ap is_worked (kind_of-stays es e lawful next t early) ∙ (off_from-is es lawful).after t (omega (arith, least, from))
  | inr late ↦ ap is_worked (kind_of-until es e lawful next t late to) ∙ go (is_worked (kind_until (last_event es) e)) refl late from
]
  where
    go : (b : Bool) → is_worked (kind_until (last_event es) e) ≡ b → reached (last_event es) ≤ t → end_after (off_from es) b (reached (last_event es)) (first_minute e) ≤ t
        → is_worked (kind_until (last_event es) e) ≡ false
    go true is late from =
        let less : nat_lt (reached (last_event es)) (first_minute e) ≡ true = lt-ltb (reached (last_event es)) (first_minute e) (omega (arith, late, to)) in
        let all : end_after (off_from es) true (reached (last_event es)) (first_minute e) ≡ first_minute e = rw less refl in
        absurd (omega (arith, all, from, to))
    go false is late from = is

-- ---- the last tour

pub last_end-most : (es : List Event) → IsLawful es → end_of (last_tour es) ≤ reached (last_event es)
last_end-most es lawful = go (last_tour es) (last_tour-ends es (last_tour es) lawful refl)
  where
    go : (o : Option Tour) → IfSome o (λ tour. tour.end ≤ reached (last_event es)) → end_of o ≤ reached (last_event es)
    go None by = omega arith
    go (Some tour) by = by

pub last_end-push : (es : List Event) (e : Event) (o : Option Tour) → o ≡ ended (stage_of es) (last_begun es) e → tour_end_after (end_of (last_tour es)) o ≡ end_of (last_tour (es ++ e ∷ []))
last_end-push es e o is = either o ∙ ap (λ x. end_of (option_or x (last_tour es))) is ∙ ap end_of (sym (last_tour-push es e))
  where
    either : (o : Option Tour) → tour_end_after (end_of (last_tour es)) o ≡ end_of (option_or o (last_tour es))
    either None = refl
    either (Some tour) = refl

-- no minute is worked from where a tour ends to the event that ends it
closes : (s : Stage) (o : Option Event) (t off : ℕ) (place : List ℕ) → IsSince s (reached o) → BeganLast s o → off ≤ reached o → reached o ≤ t
    → end_after off (is_worked (kind_until o (event.Final t place))) (reached o) t ≤ tour_end s t
closes (stage.Interim k since at) o t off place is began by order =
    let none : end_after off (is_worked (kind_until o (event.Final t place))) (reached o) t ≡ off = ap (λ p. end_after off (is_worked (kind_until p (event.Final t place))) (reached o) t) began in
    omega (arith, none, by, is)
closes s o t off place is began by order = (after-least off (is_worked (kind_until o (event.Final t place))) (reached o) t by order).1

pub ended-late : (es : List Event) (e : Event) (o : Option Tour) → IsLawful es → IsNext es e → o ≡ ended (stage_of es) (last_begun es) e → IfSome o (λ tour. off_from (es ++ e ∷ []) ≤ tour.end)
ended-late es e o lawful next is = subst (λ x. IfSome x (λ tour. off_from (es ++ e ∷ []) ≤ tour.end)) (sym is) (go (last_begun es) e next)
  where
    go : (start : Option ℕ) (e : Event) → IsNext es e → IfSome (ended (stage_of es) start e) (λ tour. off_from (es ++ e ∷ []) ≤ tour.end)
    go None e next = tt
    go (Some k) (event.Final t place) next =
        let e = event.Final t place in
        let o = last_event es in
        let off = end_after (off_from es) (is_worked (kind_until o e)) (reached o) t in
        let none : end_after off true t t ≡ off = ap (λ b. cond b t off) (le-ltb t t (omega arith)) in
        omega (
          arith,
          off_from-push es e lawful next,
          none,
          closes (stage_of es) o t (off_from es) place (since_of es lawful) (began_last es lawful) (off_from-most es) (follows-reached o (stage_of es) e next),
        )
    go (Some k) e next = tt

-- ---- what it had over twelve hours

pub excess-nil : excess [] ≡ 0
unfolding excess
excess-nil = ap (over_limit []) last_tour-nil

pub excess-push : (es : List Event) (e : Event) (o : Option Tour) (sum : ℕ) → o ≡ ended (stage_of es) (last_begun es) e
    → (ended (stage_of es) (last_begun es) e ≡ None → excess (es ++ e ∷ []) ≡ excess es)
    → ((tour : Tour) → ended (stage_of es) (last_begun es) e ≡ Some tour → excess (es ++ e ∷ []) ≡ sum - 720) → excess_after (excess es) o sum ≡ excess (es ++ e ∷ [])
excess-push es e None sum is stays ends = sym (stays (sym is))
excess-push es e (Some tour) sum is stays ends = sym (ends tour (sym is))

-- ---- a gauge, and the latest minute

-- a stretch has room only behind the first minute
pub stretch-behind : (asked : ℕ → Bool) (many from to : ℕ) → 0 < many → has_stretch asked many from (max from to) ≡ has_stretch asked many from to
stretch-behind asked many from to some = elim (cases_lt from to) [
  | inl room ↦ ap (has_stretch asked many from) (omega (arith, room))
  | inr none ↦ has_stretch-none asked many from (max from to) some (omega (arith, none, some)) ∙ sym (has_stretch-none asked many from to some (omega (arith, none, some)))
]

pub minute_of-latest : (o : Option Event) → minute_of (option_map last_minute o) ≡ reached o
minute_of-latest None = refl
minute_of-latest (Some e) = refl
