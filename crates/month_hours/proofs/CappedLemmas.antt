-- The limbo minutes that count against a limit, one event more.
use Rattle.std.proofs.Common.{◌≡◌, ℕ, ◌+◌, ◌-◌, ◌<◌, ◌≤◌, inl, inr, Bool, true, false, cond, ◌&&◌, ◌||◌, nat_le, min, Option, None, Some, List, [], ◌∷◌, ◌++◌, refl, sym, ◌∙◌, arith}
use Rattle.std.proofs.Math.Bool.{or-false}
use Rattle.std.proofs.lemmas.Bool.{cases_lt, and_left, and_right, le-leb, lt-leb}
use Rattle.duty_events.specs.declared.limits.TheConstants.{DUTY_LIMIT}
use Rattle.duty_events.specs.declared.event.Event.{Event}
use Rattle.duty_events.specs.declared.minute_kind.MinuteKind.{MinuteKind}
use Rattle.duty_events.specs.declared.minute_kind.MinuteKind.TheVariants as minute
use Rattle.duty_events.specs.Allowed.{first_minute, last_minute}
use Rattle.duty_events.specs.Lists.{IsNext, IsLawful, stage_of, last_event, reached}
use Rattle.duty_events.specs.MinuteKind.{kind_of}
use Rattle.duty_events.specs.Between.{between, kind_until}
use Rattle.duty_events.specs.Minutes.{minutes_where, is_within}
use Rattle.duty_events.specs.Tours.{is_in_tour, sum_so_far, more_until}
use Rattle.duty_events.proofs.CountLemmas.{is_within-before, is_within-in, is_within-behind, minutes_where-or, minutes_where-never, minutes_where-within_if, minutes_where-most}
use Rattle.duty_events.proofs.EventLemmas.{follows-reached, kind_of-stays, kind_of-until}
use Rattle.duty_events.proofs.PointLemmas.{asks-late, asks-behind}
use Rattle.duty_events.proofs.TourLemmas.{tour_minutes-early, tour_minutes-middle}
use Rattle.month_hours.specs.Capped.{is_limbo, is_capped, capped_minutes}
use Rattle.month_hours.specs.Steps.{capped_between}

-- the capped minutes between the last event and one more
abbrev capped_from : Option Event → Event → ℕ → ℕ → Bool
capped_from None e sum t = false
capped_from (Some p) e sum t = is_within (last_minute p + (DUTY_LIMIT - sum)) (first_minute e) t && is_limbo (between p e)

capped_from-before : (o : Option Event) (e : Event) (sum t : ℕ) → t < reached o → capped_from o e sum t ≡ false
capped_from-before None e sum t before = refl
capped_from-before (Some p) e sum t before = and_left _ _ (is_within-before (last_minute p + (DUTY_LIMIT - sum)) (first_minute e) t (omega (arith, before)))

capped_from-behind : (o : Option Event) (e : Event) (sum t : ℕ) → first_minute e ≤ t → capped_from o e sum t ≡ false
capped_from-behind None e sum t behind = refl
capped_from-behind (Some p) e sum t behind = and_left _ _ (is_within-behind (last_minute p + (DUTY_LIMIT - sum)) (first_minute e) t behind)

-- from a list's latest minute on none is capped
capped-late : (es : List Event) → IsLawful es → (t : ℕ) → reached (last_event es) ≤ t → is_capped es t ≡ false
unfolding is_capped
capped-late es lawful t late = and_left _ _ (asks-late is_limbo (refl, refl) es lawful t late)

capped-early : (es : List Event) (e : Event) → IsLawful es → IsNext es e → (t : ℕ) → t < reached (last_event es) → is_capped (es ++ e ∷ []) t ≡ is_capped es t
unfolding is_capped
capped-early es e lawful next t early = rw (kind_of-stays es e lawful next t early, tour_minutes-early es e lawful next t early) refl

capped-behind : (es : List Event) (e : Event) → IsLawful es → IsNext es e → (t : ℕ) → first_minute e ≤ t → is_capped (es ++ e ∷ []) t ≡ false
unfolding is_capped
capped-behind es e lawful next t behind = and_left _ _ (asks-behind is_limbo (refl, refl) refl es e lawful next t behind)

-- a minute between two events of a limbo that starts with so many minutes summed
passes_720 : (sum from to t : ℕ) → from ≤ t → t < to → nat_le DUTY_LIMIT (sum + (min to t - from)) ≡ is_within (from + (DUTY_LIMIT - sum)) to t
passes_720 sum from to t low high = elim (cases_lt t (from + (DUTY_LIMIT - sum))) [
  | inl early ↦ lt-leb DUTY_LIMIT (sum + (min to t - from)) (omega (arith, low, high, early)) ∙ sym (is_within-before (from + (DUTY_LIMIT - sum)) to t early)
  | inr late ↦ le-leb DUTY_LIMIT (sum + (min to t - from)) (omega (arith, low, high, late)) ∙ sym (is_within-in (from + (DUTY_LIMIT - sum)) to t late high)
]

capped_kind : (k : MinuteKind) (sum from to t : ℕ) → from ≤ t → t < to
    → (is_limbo k && nat_le DUTY_LIMIT (sum + cond (is_in_tour k) (min to t - from) 0)) ≡ (is_within (from + (DUTY_LIMIT - sum)) to t && is_limbo k)
capped_kind minute.Limbo sum from to t low high = passes_720 sum from to t low high ∙ sym (and-true (is_within (from + (DUTY_LIMIT - sum)) to t))
  where
    and-true : (b : Bool) → (b && true) ≡ b
    and-true true = refl
    and-true false = refl
capped_kind k sum from to t low high = sym (and_right (is_within (from + (DUTY_LIMIT - sum)) to t) false refl)

capped-middle : (es : List Event) (e : Event) → IsLawful es → IsNext es e → (t : ℕ) → reached (last_event es) ≤ t → t < first_minute e
    → is_capped (es ++ e ∷ []) t ≡ capped_from (last_event es) e (sum_so_far es) t
unfolding is_capped
capped-middle es e lawful next t from to = rw (kind_of-until es e lawful next t from to, tour_minutes-middle es e lawful next t from to) (go (last_event es) from)
  where
    go : (o : Option Event) → reached o ≤ t → (is_limbo (kind_until o e) && nat_le DUTY_LIMIT (sum_so_far es + more_until o e t)) ≡ capped_from o e (sum_so_far es) t
    go None from = refl
    go (Some p) from = capped_kind (between p e) (sum_so_far es) (last_minute p) (first_minute e) t from to

capped-push : (es : List Event) (e : Event) → IsLawful es → IsNext es e → (t : ℕ)
    → is_capped (es ++ e ∷ []) t ≡ (capped_from (last_event es) e (sum_so_far es) t || is_capped es t)
capped-push es e lawful next t =
    let o = last_event es in
    let order = follows-reached o (stage_of es) e next in
    elim (cases_lt t (reached o)) [
      | inl early ↦ rw (capped_from-before o e (sum_so_far es) t early) (capped-early es e lawful next t early)
      | inr from ↦ elim (cases_lt t (first_minute e)) [
        | inl to ↦ rw (capped-late es lawful t from) (capped-middle es e lawful next t from to ∙ sym (or-false (capped_from o e (sum_so_far es) t)))
        | inr behind ↦ rw (capped_from-behind o e (sum_so_far es) t behind, capped-late es lawful t from) (capped-behind es e lawful next t behind)
      ]
    ]

apart : (es : List Event) (e : Event) → IsLawful es → (t : ℕ) → (capped_from (last_event es) e (sum_so_far es) t && is_capped es t) ≡ false
apart es e lawful t = elim (cases_lt t (reached (last_event es))) [
  | inl early ↦ and_left _ _ (capped_from-before (last_event es) e (sum_so_far es) t early)
  | inr from ↦ and_right (capped_from (last_event es) e (sum_so_far es) t) _ (capped-late es lawful t from)
]

count-from : (o : Option Event) (e : Event) (sum x n : ℕ) → minutes_where (capped_from o e sum) x n ≡ capped_between o e sum x n
count-from None e sum x n = minutes_where-never x n
count-from (Some p) e sum x n = minutes_where-within_if (is_limbo (between p e)) (last_minute p + (DUTY_LIMIT - sum)) (first_minute e) x n

pub capped_minutes-push : (es : List Event) (e : Event) → IsLawful es → IsNext es e → (x n : ℕ)
    → capped_minutes (es ++ e ∷ []) x n ≡ capped_minutes es x n + capped_between (last_event es) e (sum_so_far es) x n
unfolding capped_minutes
capped_minutes-push es e lawful next x n =
    omega (
      arith,
      minutes_where-or (capped_from (last_event es) e (sum_so_far es)) (is_capped es) (is_capped (es ++ e ∷ [])) (capped-push es e lawful next) (apart es e lawful) x n,
      count-from (last_event es) e (sum_so_far es) x n,
    )

pub capped_minutes-most : (es : List Event) (x n : ℕ) → capped_minutes es x n ≤ n
unfolding capped_minutes
capped_minutes-most es x n = minutes_where-most (is_capped es) x n

pub capped_minutes-nil : (x n : ℕ) → capped_minutes [] x n ≡ 0
unfolding capped_minutes is_capped kind_of
capped_minutes-nil x n = minutes_where-never x n
