-- What one event more makes of the counts of a tour's minutes.
use Rattle.std.proofs.Common.{◌≡◌, ℕ, ◌+◌, ◌-◌, ◌^◌, ◌≤◌, inl, inr, Bool, true, false, cond, ◌&&◌, ◌||◌, nat_le, min, max, Option, None, Some, List, [], ◌∷◌, ◌++◌, refl, sym, ap, ◌∙◌, arith}
use Rattle.std.proofs.lemmas.Bool.{cases_lt, le-leb, lt-leb, and_left, and_right}
use Rattle.duty_events.specs.declared.event.Event.{Event}
use Rattle.duty_events.specs.declared.limits.TheConstants.{DUTY_LIMIT}
use Rattle.duty_events.specs.declared.minute_kind.MinuteKind.{MinuteKind}
use Rattle.duty_events.specs.declared.minute_kind.MinuteKind.TheVariants as minute
use Rattle.duty_events.specs.Allowed.{first_minute, last_minute}
use Rattle.duty_events.specs.Lists.{IsNext, IsLawful, stage_of, last_event, reached}
use Rattle.duty_events.specs.MinuteKind.{begins, marks, kind_of}
use Rattle.duty_events.specs.Between.{between, minutes_between}
use Rattle.duty_events.specs.Minutes.{minutes_where, shared}
use Rattle.duty_events.specs.Tours.{begun_at, is_in_tour, sum_so_far}
use Rattle.duty_events.proofs.CountLemmas.{minutes_where-none, minutes_where-same, minutes_where-add, minutes_where-or, minutes_where-never, minutes_where-most}
use Rattle.duty_events.proofs.PointLemmas.{IsOfWork, asks-late, asks-behind, count-push}
use Rattle.duty_events.proofs.TourLemmas.{begun_at-next, start-reached}
use Rattle.duty_events.proofs.EventLemmas.{reached-years}
use Rattle.month_hours.specs.Capped.{is_limbo, is_capped, capped_minutes}
use Rattle.month_hours.specs.Steps.{capped_between}
use Rattle.month_hours.proofs.CappedLemmas.{capped_minutes-push}
use Rattle.tour_build.specs.LastTour.{is_on_duty, is_in, tour_count, tour_capped, in_all}

-- ---- minutes from one on

-- those of so many that don't come before a minute
from : (s : ℕ) (p : ℕ → Bool) (x n : ℕ) → minutes_where (λ t. nat_le s t && p t) x n ≡ minutes_where p (max x s) (x + n - max x s)
from s p x n =
    let few = min n (s - x) in
    let whole : minutes_where (λ t. nat_le s t && p t) x n ≡ minutes_where (λ t. nat_le s t && p t) x (few + (n - few)) = ap (minutes_where (λ t. nat_le s t && p t) x) (omega arith) in
    let before : minutes_where (λ t. nat_le s t && p t) x few ≡ 0 =
    minutes_where-same (λ t. nat_le s t && p t) (λ t. false) x few (λ t low high. ap (λ b. b && p t) (lt-leb s t (omega (arith, low, high)))) ∙ minutes_where-never x few in
    let behind : minutes_where (λ t. nat_le s t && p t) (x + few) (n - few) ≡ minutes_where p (x + few) (n - few) =
    minutes_where-same (λ t. nat_le s t && p t) p (x + few) (n - few) (λ t low high. ap (λ b. b && p t) (le-leb s t (omega (arith, low, high)))) in
    omega (arith, whole, minutes_where-add (λ t. nat_le s t && p t) x few (n - few), before, behind, there)
  where
    there : minutes_where p (x + min n (s - x)) (n - min n (s - x)) ≡ minutes_where p (max x s) (x + n - max x s)
    there = elim (cases_lt (x + n) s) [
      | inl beyond ↦
          ap (minutes_where p (x + min n (s - x))) (omega (arith, beyond)) ∙ minutes_where-none p (x + min n (s - x)) ∙ sym (minutes_where-none p (max x s))
          ∙ ap (minutes_where p (max x s)) (omega (arith, beyond))
      | inr to ↦
          ap (λ a. minutes_where p a (n - min n (s - x))) (omega (arith, to)) ∙ ap (minutes_where p (max x s)) (omega (arith, to))
    ]

-- the minutes from one on that come behind another are the same, behind that one or not
shared-from : (s a b x n : ℕ) → s ≤ a → shared a b (max x s) (x + n - max x s) ≡ shared a b x n
shared-from s a b x n behind = omega (arith, behind)

-- ---- kinds of minutes

-- kinds that only a tour's minutes have
abbrev pub IsOfTours : (MinuteKind → Bool) → Type 0
IsOfTours q = IsOfWork q × (q minute.Other ≡ false)

-- where a tour begins none has come yet
begins-none : (q : MinuteKind → Bool) → IsOfTours q → (es : List Event) (e : Event) → IsLawful es → IsNext es e → (x n : ℕ)
    → minutes_where (λ t. nat_le (last_minute e) t && q (kind_of (es ++ e ∷ []) t)) x n ≡ 0
begins-none q tours es e lawful next x n =
    minutes_where-same (λ t. nat_le (last_minute e) t && q (kind_of (es ++ e ∷ []) t)) (λ t. false) x n (λ t low high. none t) ∙ minutes_where-never x n
  where
    none : (t : ℕ) → (nat_le (last_minute e) t && q (kind_of (es ++ e ∷ []) t)) ≡ false
    none t = elim (cases_lt t (last_minute e)) [
      | inl before ↦ ap (λ b. b && q (kind_of (es ++ e ∷ []) t)) (lt-leb (last_minute e) t before)
      | inr behind ↦ and_right (nat_le (last_minute e) t) _ (asks-behind q tours.0 tours.1 es e lawful next t (omega (arith, behind, next.whole)))
    ]

minutes_between-from : (q : MinuteKind → Bool) (o : Option Event) (e : Event) (s x n : ℕ) → s ≤ reached o
    → minutes_between q o e (max x s) (x + n - max x s) ≡ minutes_between q o e x n
minutes_between-from q None e s x n from = refl
minutes_between-from q (Some p) e s x n from = ap (λ m. cond (q (between p e)) m 0) (shared-from s (last_minute p) (first_minute e) x n from)

pub tour_count-push : (q : MinuteKind → Bool) → IsOfTours q → (es : List Event) (e : Event) → IsLawful es → IsNext es e → (x n : ℕ)
    → tour_count q (es ++ e ∷ []) x n ≡ cond (begins (stage_of es) e) 0 (tour_count q es x n + minutes_between q (last_event es) e x n)
unfolding tour_count
tour_count-push q tours es e lawful next x n =
    ap (λ s. minutes_where (λ t. nat_le s t && q (kind_of (es ++ e ∷ []) t)) x n) (begun_at-next es e) ∙ go (begins (stage_of es) e)
  where
    s : ℕ
    s = begun_at (marks es)

    later : minutes_where (λ t. nat_le (begun_at (marks es)) t && q (kind_of (es ++ e ∷ []) t)) x n
        ≡ minutes_where (λ t. nat_le (begun_at (marks es)) t && q (kind_of es t)) x n + minutes_between q (last_event es) e x n
    later =
        let own = ap (λ b. cond b (shared (first_minute e) (last_minute e) (max x s) (x + n - max x s)) 0) tours.1 in
        omega (
          arith,
          from s (λ t. q (kind_of (es ++ e ∷ []) t)) x n,
          from s (λ t. q (kind_of es t)) x n,
          count-push q tours.0 es e lawful next (max x s) (x + n - max x s),
          own,
          minutes_between-from q (last_event es) e s x n (start-reached es lawful),
        )

    go : (here : Bool) → minutes_where (λ t. nat_le (cond here (last_minute e) (begun_at (marks es))) t && q (kind_of (es ++ e ∷ []) t)) x n
        ≡ cond here 0 (minutes_where (λ t. nat_le (begun_at (marks es)) t && q (kind_of es t)) x n + minutes_between q (last_event es) e x n)
    go true = begins-none q tours es e lawful next x n
    go false = later

pub tour_count-most : (q : MinuteKind → Bool) (es : List Event) (x n : ℕ) → tour_count q es x n ≤ n
unfolding tour_count
tour_count-most q es x n = minutes_where-most (λ t. is_in es t && q (kind_of es t)) x n

pub tour_count-nil : (q : MinuteKind → Bool) → IsOfWork q → (x n : ℕ) → tour_count q [] x n ≡ 0
unfolding tour_count kind_of
tour_count-nil q work x n = minutes_where-same (λ t. is_in [] t && q (kind_of [] t)) (λ t. false) x n (λ t low high. and_right (is_in [] t) _ work.0) ∙ minutes_where-never x n

-- ---- capped minutes

capped_between-from : (o : Option Event) (e : Event) (sum s x n : ℕ) → s ≤ reached o → capped_between o e sum (max x s) (x + n - max x s) ≡ capped_between o e sum x n
capped_between-from None e sum s x n from = refl
capped_between-from (Some p) e sum s x n from =
    ap (λ m. cond (is_limbo (between p e)) m 0) (shared-from s (last_minute p + (DUTY_LIMIT - sum)) (first_minute e) x n (omega (arith, from)))

capped-behind : (es : List Event) (e : Event) → IsLawful es → IsNext es e → (t : ℕ) → last_minute e ≤ t → is_capped (es ++ e ∷ []) t ≡ false
unfolding is_capped
capped-behind es e lawful next t behind = and_left _ _ (asks-behind is_limbo (refl, refl) refl es e lawful next t (omega (arith, behind, next.whole)))

capped-begins : (es : List Event) (e : Event) → IsLawful es → IsNext es e → (x n : ℕ) → minutes_where (λ t. nat_le (last_minute e) t && is_capped (es ++ e ∷ []) t) x n ≡ 0
capped-begins es e lawful next x n =
    minutes_where-same (λ t. nat_le (last_minute e) t && is_capped (es ++ e ∷ []) t) (λ t. false) x n (λ t low high. none t) ∙ minutes_where-never x n
  where
    none : (t : ℕ) → (nat_le (last_minute e) t && is_capped (es ++ e ∷ []) t) ≡ false
    none t = elim (cases_lt t (last_minute e)) [
      | inl before ↦ ap (λ b. b && is_capped (es ++ e ∷ []) t) (lt-leb (last_minute e) t before)
      | inr behind ↦ and_right (nat_le (last_minute e) t) _ (capped-behind es e lawful next t behind)
    ]

capped-goes_on : (es : List Event) (e : Event) → IsLawful es → IsNext es e → (x n : ℕ)
    → minutes_where (λ t. nat_le (begun_at (marks es)) t && is_capped (es ++ e ∷ []) t) x n
    ≡ minutes_where (λ t. nat_le (begun_at (marks es)) t && is_capped es t) x n + capped_between (last_event es) e (sum_so_far es) x n
unfolding capped_minutes
capped-goes_on es e lawful next x n =
    let s = begun_at (marks es) in
    omega (
      arith,
      from s (is_capped (es ++ e ∷ [])) x n,
      from s (is_capped es) x n,
      capped_minutes-push es e lawful next (max x s) (x + n - max x s),
      capped_between-from (last_event es) e (sum_so_far es) s x n (start-reached es lawful),
    )

pub tour_capped-push : (es : List Event) (e : Event) → IsLawful es → IsNext es e → (x n : ℕ)
    → tour_capped (es ++ e ∷ []) x n ≡ cond (begins (stage_of es) e) 0 (tour_capped es x n + capped_between (last_event es) e (sum_so_far es) x n)
unfolding tour_capped
tour_capped-push es e lawful next x n =
    ap (λ s. minutes_where (λ t. nat_le s t && is_capped (es ++ e ∷ []) t) x n) (begun_at-next es e) ∙ go (begins (stage_of es) e)
  where
    go : (here : Bool) → minutes_where (λ t. nat_le (cond here (last_minute e) (begun_at (marks es))) t && is_capped (es ++ e ∷ []) t) x n
        ≡ cond here 0 (minutes_where (λ t. nat_le (begun_at (marks es)) t && is_capped es t) x n + capped_between (last_event es) e (sum_so_far es) x n)
    go true = capped-begins es e lawful next x n
    go false = capped-goes_on es e lawful next x n

pub tour_capped-most : (es : List Event) (x n : ℕ) → tour_capped es x n ≤ n
unfolding tour_capped
tour_capped-most es x n = minutes_where-most (λ t. is_in es t && is_capped es t) x n

pub tour_capped-nil : (x n : ℕ) → tour_capped [] x n ≡ 0
unfolding tour_capped is_capped kind_of
tour_capped-nil x n = minutes_where-same (λ t. is_in [] t && is_capped [] t) (λ t. false) x n (λ t low high. and_right (is_in [] t) _ refl) ∙ minutes_where-never x n

-- ---- the sum

-- on duty and limbo together are all that a tour sums
pub sum-is : (es : List Event) → IsLawful es → in_all (tour_count is_on_duty es) + in_all (tour_count is_limbo es) ≡ sum_so_far es
unfolding tour_count sum_so_far
sum-is es lawful =
    let s = begun_at (marks es) in
    let to = reached (last_event es) in
    let both = minutes_where-or (λ t. is_in es t && is_on_duty (kind_of es t)) (λ t. is_in es t && is_limbo (kind_of es t)) (λ t. is_in es t && is_in_tour (kind_of es t)) together apart 0 (2 ^ 28) in
    let split = minutes_where-add (λ t. is_in_tour (kind_of es t)) s (to - s) (2 ^ 28 - to) in
    let whole : minutes_where (λ t. is_in_tour (kind_of es t)) (max 0 s) (0 + 2 ^ 28 - max 0 s) ≡ minutes_where (λ t. is_in_tour (kind_of es t)) s (to - s + (2 ^ 28 - to)) =
    ap (λ a. minutes_where (λ t. is_in_tour (kind_of es t)) a (0 + 2 ^ 28 - max 0 s)) (omega arith)
    ∙ ap (minutes_where (λ t. is_in_tour (kind_of es t)) s) (omega (arith, start-reached es lawful, reached-years es lawful)) in
    let late : minutes_where (λ t. is_in_tour (kind_of es t)) (s + (to - s)) (2 ^ 28 - to) ≡ 0 =
    minutes_where-same (λ t. is_in_tour (kind_of es t)) (λ t. false) (s + (to - s)) (2 ^ 28 - to)
    (λ t low high. asks-late is_in_tour (refl, refl) es lawful t (omega (arith, low, start-reached es lawful)))
    ∙ minutes_where-never (s + (to - s)) (2 ^ 28 - to) in
    omega (arith, both, from s (λ t. is_in_tour (kind_of es t)) 0 (2 ^ 28), whole, split, late)
  where
    kinds : (k : MinuteKind) → is_in_tour k ≡ (is_on_duty k || is_limbo k)
    kinds minute.OnDuty = refl
    kinds minute.Limbo = refl
    kinds minute.Other = refl
    kinds minute.Off = refl
    kinds minute.Open = refl

    exclude : (k : MinuteKind) → (is_on_duty k && is_limbo k) ≡ false
    exclude minute.OnDuty = refl
    exclude minute.Limbo = refl
    exclude minute.Other = refl
    exclude minute.Off = refl
    exclude minute.Open = refl

    with_both : (b x y z : Bool) → z ≡ (x || y) → (b && z) ≡ ((b && x) || (b && y))
    with_both true x y z is = is
    with_both false x y z is = refl

    with_apart : (b x y : Bool) → (x && y) ≡ false → ((b && x) && (b && y)) ≡ false
    with_apart true x y is = is
    with_apart false x y is = refl

    together : (t : ℕ) → (is_in es t && is_in_tour (kind_of es t)) ≡ ((is_in es t && is_on_duty (kind_of es t)) || (is_in es t && is_limbo (kind_of es t)))
    together t = with_both (is_in es t) _ _ _ (kinds (kind_of es t))

    apart : (t : ℕ) → ((is_in es t && is_on_duty (kind_of es t)) && (is_in es t && is_limbo (kind_of es t))) ≡ false
    apart t = with_apart (is_in es t) _ _ (exclude (kind_of es t))
