-- Lists of events, one event more.
use Rattle.std.proofs.Common.{◌≡◌, ℕ, zero, suc, ◌+◌, ◌<◌, ◌≤◌, ◌⊎◌, inl, inr, None, Some, List, [], ◌∷◌, ◌++◌, take, length, get_or, refl, sym, subst, ap, ◌∙◌, arith}
use Rattle.std.specs.List.{slice_get}
use Rattle.std.proofs.lemmas.Option.{slice_get_cases, slice_get-get_or, none-some, same_Some}
use Rattle.std.proofs.lemmas.List.{take_at, take_all, take_more, take-take, take-append-le}
use Rattle.std.proofs.lemmas.List.Sums.{fold_push}
use Rattle.duty_events.specs.declared.event.Event.{Event}
use Rattle.duty_events.specs.declared.stage.Stage.TheVariants as stage
use Rattle.duty_events.specs.Lists.{IsNext, IsLawful, stage_after, stage_of, last_event}

-- what stands in a list with one more stood there before, or is the one more
slice_get-push : {X : Type 0} (xs : List X) (y : X) (k : ℕ) (x : X) → slice_get (xs ++ y ∷ []) k ≡ Some x
    → ((k < length xs) × (slice_get xs k ≡ Some x)) ⊎ ((length xs ≡ k) × (y ≡ x))
slice_get-push [] y zero x is = inr (refl, same_Some y x is)
slice_get-push [] y (suc k) x is = absurd (none-some x is)
slice_get-push (z ∷ xs) y zero x is = inl (omega arith, is)
slice_get-push (z ∷ xs) y (suc k) x is =
    elim (slice_get-push xs y k x is) [ inl old ↦ inl (omega (arith, old.0), old.1) | inr new ↦ inr (ap suc new.0, new.1) ]

slice_get-take : {X : Type 0} (n : ℕ) (xs : List X) (k : ℕ) (x : X) → slice_get (take n xs) k ≡ Some x → (k < n) × (slice_get xs k ≡ Some x)
slice_get-take zero xs k x is = absurd (none-some x is)
slice_get-take (suc n) [] k x is = absurd (none-some x is)
slice_get-take (suc n) (y ∷ xs) zero x is = (omega arith, is)
slice_get-take (suc n) (y ∷ xs) (suc k) x is = let rest = slice_get-take n xs k x is in (omega (arith, rest.0), rest.1)

-- a lawful list and an event that may follow it are a lawful list
pub lawful-push : (es : List Event) (e : Event) → IsLawful es → IsNext es e → IsLawful (es ++ e ∷ [])
lawful-push es e lawful next = record { each = each }
  where
    each : (k : ℕ) (x : Event) → slice_get (es ++ e ∷ []) k ≡ Some x → IsNext (take k (es ++ e ∷ [])) x
    each k x is = elim (slice_get-push es e k x is) [
      | inl old ↦ rw (take-append-le k es (e ∷ []) (omega (arith, old.0))) (lawful.each k x old.1)
      | inr new ↦ rw (take_at es (e ∷ []) k new.0) (subst (IsNext es) new.1 next)
    ]

-- the first events of a lawful list are a lawful list, and the one behind them may follow them
pub lawful-take : (es : List Event) (n : ℕ) → IsLawful es → IsLawful (take n es)
lawful-take es n lawful = record { each = each }
  where
    each : (k : ℕ) (x : Event) → slice_get (take n es) k ≡ Some x → IsNext (take k (take n es)) x
    each k x is =
        let here = slice_get-take n es k x is in rw (take-take k n es (omega (arith, here.0))) (lawful.each k x here.1)

pub lawful-here : (es : List Event) (i : ℕ) (e : Event) → IsLawful es → i < length es → e ≡ get_or es i e → IsNext (take i es) e
lawful-here es i e lawful within is = lawful.each i e (slice_get-get_or es i e within ∙ ap Some (sym is))

-- the first events and the one behind them
pub take-push : {X : Type 0} (xs : List X) (i : ℕ) (x : X) → i < length xs → x ≡ get_or xs i x → take (i + 1) xs ≡ take i xs ++ x ∷ []
take-push xs i x within is = take_more xs i x within ∙ ap (λ y. take i xs ++ y ∷ []) (sym is)

-- the same of a loop over the events
pub record Comes (es : List Event) (i : ℕ) (e : Event) : Type 0 where
  pub is : take (i + 1) es ≡ take i es ++ e ∷ []
  pub lawful : IsLawful (take i es)
  pub next : IsNext (take i es) e

pub comes : (es : List Event) (i : ℕ) (e : Event) → IsLawful es → i < length es → e ≡ get_or es i e → Comes es i e
comes es i e lawful within is = record { is = take-push es i e within is; lawful = lawful-take es i lawful; next = lawful-here es i e lawful within is }

-- what holds of no events, and of one event more that may follow, holds of each lawful list
pub lawful-induction : (P : List Event → Type 0) → P [] → ((es : List Event) (e : Event) → IsLawful es → IsNext es e → P es → P (es ++ e ∷ [])) → (es : List Event) → IsLawful es → P es
lawful-induction P none more es lawful = subst P (take_all (length es) es (omega arith)) (go (length es) (omega arith))
  where
    go : (i : ℕ) → i ≤ length es → P (take i es)
    go zero within = none
    go (suc i) within = elim (slice_get_cases es i).1 [
      | inl here ↦
          let is = sym here.3 in
          let next : suc i ≡ i + 1 = omega arith in
          let more_is : take (suc i) es ≡ take i es ++ here.0 ∷ [] = ap (λ n. take n es) next ∙ take-push es i here.0 here.1 is in
          subst P (sym more_is) (more (take i es) here.0 (lawful-take es i lawful) (lawful-here es i here.0 lawful here.1 is) (go i (omega (arith, within))))
      | inr past ↦ absurd (omega (arith, past.0, within))
    ]

pub stage_of-push : (es : List Event) (e : Event) → stage_of (es ++ e ∷ []) ≡ stage_after (stage_of es) e
stage_of-push es e = fold_push stage_after stage.Off es e

pub last_event-push : (es : List Event) (e : Event) → last_event (es ++ e ∷ []) ≡ Some e
last_event-push es e = fold_push (λ o x. Some x) None es e
