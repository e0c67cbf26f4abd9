-- What one event more makes of a question about minutes, minute by minute and counted.
use Rattle.std.proofs.Common.{◌≡◌, ℕ, ◌+◌, ◌<◌, ◌≤◌, inl, inr, Bool, false, ◌&&◌, ◌||◌, cond, Option, None, Some, List, [], ◌∷◌, ◌++◌, refl, sym, ap, ◌∙◌, arith}
use Rattle.std.proofs.Math.Bool.{or-false}
use Rattle.std.proofs.lemmas.Bool.{cases_lt, and_left, and_right, or_from}
use Rattle.duty_events.specs.declared.event.Event.{Event}
use Rattle.duty_events.specs.declared.minute_kind.MinuteKind.{MinuteKind}
use Rattle.duty_events.specs.declared.minute_kind.MinuteKind.TheVariants as minute
use Rattle.duty_events.specs.Allowed.{first_minute, last_minute}
use Rattle.duty_events.specs.Lists.{IsNext, IsLawful, stage_of, last_event, reached}
use Rattle.duty_events.specs.MinuteKind.{Leads, ToInterim, unended, kind_of, last_leads}
use Rattle.duty_events.specs.Between.{kind_until, kind_behind, between, minutes_between}
use Rattle.duty_events.specs.Minutes.{minutes_where, is_within, shared}
use Rattle.duty_events.proofs.CountLemmas.{is_within-before, is_within-in, is_within-behind, minutes_where-or, minutes_where-never, minutes_where-within_if}
use Rattle.duty_events.proofs.EventLemmas.{follows-reached, kind_of-stays, kind_of-until, kind_of-within, kind_of-late, kind_of-behind}

-- a question that off and open minutes don't pass
abbrev pub IsOfWork : (MinuteKind → Bool) → Type 0
IsOfWork q = (q minute.Off ≡ false) × (q minute.Open ≡ false)

unended-not : (q : MinuteKind → Bool) → IsOfWork q → (leads : Leads) → q (unended leads) ≡ false
unended-not q work (ToInterim k) = work.1
unended-not q work leads = work.0

-- no minute from a list's latest on passes
pub asks-late : (q : MinuteKind → Bool) → IsOfWork q → (es : List Event) → IsLawful es → (t : ℕ) → reached (last_event es) ≤ t → q (kind_of es t) ≡ false
asks-late q work es lawful t late = ap q (kind_of-behind es lawful t late) ∙ behind-not (last_event es)
  where
    behind-not : (o : Option Event) → q (kind_behind o) ≡ false
    behind-not None = work.0
    behind-not (Some p) = unended-not q work (last_leads p)

-- the minutes between the last event and one more
abbrev pub asks_between : (MinuteKind → Bool) → Option Event → Event → ℕ → Bool
asks_between q None e t = false
asks_between q (Some p) e t = is_within (last_minute p) (first_minute e) t && q (between p e)

-- the event's own
abbrev pub asks_own : (MinuteKind → Bool) → Event → ℕ → Bool
asks_own q e t = is_within (first_minute e) (last_minute e) t && q minute.Other

asks_between-behind : (q : MinuteKind → Bool) (o : Option Event) (e : Event) (t : ℕ) → first_minute e ≤ t → asks_between q o e t ≡ false
asks_between-behind q None e t behind = refl
asks_between-behind q (Some p) e t behind = and_left _ _ (is_within-behind (last_minute p) (first_minute e) t behind)

asks_between-before : (q : MinuteKind → Bool) (o : Option Event) (e : Event) (t : ℕ) → t < reached o → asks_between q o e t ≡ false
asks_between-before q None e t before = refl
asks_between-before q (Some p) e t before = and_left _ _ (is_within-before (last_minute p) (first_minute e) t before)

-- a minute passes after one event more: it lies between the two, or is the event's own, or passed before
asks-middle : (q : MinuteKind → Bool) → IsOfWork q → (es : List Event) (e : Event) → IsLawful es → IsNext es e → (t : ℕ)
    → reached (last_event es) ≤ t → t < first_minute e → q (kind_of (es ++ e ∷ []) t) ≡ asks_between q (last_event es) e t
asks-middle q work es e lawful next t from to = ap q (kind_of-until es e lawful next t from to) ∙ go (last_event es) from
  where
    go : (o : Option Event) → reached o ≤ t → q (kind_until o e) ≡ asks_between q o e t
    go None from = work.0
    go (Some p) from = rw (is_within-in (last_minute p) (first_minute e) t from to) refl

pub asks-push : (q : MinuteKind → Bool) → IsOfWork q → (es : List Event) (e : Event) → IsLawful es → IsNext es e → (t : ℕ)
    → q (kind_of (es ++ e ∷ []) t) ≡ (asks_between q (last_event es) e t || (asks_own q e t || q (kind_of es t)))
asks-push q work es e lawful next t =
    let o = last_event es in
    let order = follows-reached o (stage_of es) e next in
    let first = first_minute e in
    let last = last_minute e in
    elim (cases_lt t (reached o)) [
      | inl early ↦ rw (asks_between-before q o e t early, is_within-before first last t (omega (arith, early, order))) (ap q (kind_of-stays es e lawful next t early))
      | inr from ↦
          let old = asks-late q work es lawful t from in
          elim (cases_lt t first) [
            | inl to ↦ rw (is_within-before first last t to, old) (asks-middle q work es e lawful next t from to ∙ sym (or-false (asks_between q o e t)))
            | inr own ↦ elim (cases_lt t last) [
              | inl to ↦ rw (asks_between-behind q o e t own, is_within-in first last t own to, old) (ap q (kind_of-within es e lawful next t own to) ∙ sym (or-false (q minute.Other)))
              | inr late ↦ rw (asks_between-behind q o e t own, is_within-behind first last t late, old) (ap q (kind_of-late es e lawful next t late) ∙ unended-not q work (last_leads e))
            ]
          ]
    ]

-- no minute from the event's first on passes a question that other service doesn't pass either
pub asks-behind : (q : MinuteKind → Bool) → IsOfWork q → q minute.Other ≡ false → (es : List Event) (e : Event) → IsLawful es → IsNext es e → (t : ℕ)
    → first_minute e ≤ t → q (kind_of (es ++ e ∷ []) t) ≡ false
asks-behind q work other es e lawful next t behind =
    let old = asks-late q work es lawful t (omega (arith, behind, follows-reached (last_event es) (stage_of es) e next)) in
    asks-push q work es e lawful next t
    ∙ rw (asks_between-behind q (last_event es) e t behind, other, old) (or_from _ _ (and_right (is_within (first_minute e) (last_minute e) t) false refl) refl)

apart : (q : MinuteKind → Bool) → IsOfWork q → (es : List Event) (e : Event) → IsLawful es → IsNext es e → (t : ℕ) → (asks_between q (last_event es) e t && (asks_own q e t || q (kind_of es t))) ≡ false
apart q work es e lawful next t = elim (cases_lt t (reached (last_event es))) [
  | inl early ↦ and_left _ _ (asks_between-before q (last_event es) e t early)
  | inr from ↦ elim (cases_lt t (first_minute e)) [
    | inl to ↦ rw (is_within-before (first_minute e) (last_minute e) t to, asks-late q work es lawful t from) (and_right (asks_between q (last_event es) e t) false refl)
    | inr behind ↦ and_left _ _ (asks_between-behind q (last_event es) e t behind)
  ]
]

apart-own : (q : MinuteKind → Bool) → IsOfWork q → (es : List Event) (e : Event) → IsLawful es → IsNext es e → (t : ℕ) → (asks_own q e t && q (kind_of es t)) ≡ false
apart-own q work es e lawful next t = elim (cases_lt t (first_minute e)) [
  | inl early ↦ and_left _ _ (and_left _ _ (is_within-before (first_minute e) (last_minute e) t early))
  | inr from ↦ and_right (asks_own q e t) _ (asks-late q work es lawful t (omega (arith, from, follows-reached (last_event es) (stage_of es) e next)))
]

count-between : (q : MinuteKind → Bool) (o : Option Event) (e : Event) (x n : ℕ) → minutes_where (asks_between q o e) x n ≡ minutes_between q o e x n
count-between q None e x n = minutes_where-never x n
count-between q (Some p) e x n = minutes_where-within_if (q (between p e)) (last_minute p) (first_minute e) x n

-- counted: those between the two, the event's own, and those before
pub count-push : (q : MinuteKind → Bool) → IsOfWork q → (es : List Event) (e : Event) → IsLawful es → IsNext es e → (x n : ℕ)
    → minutes_where (λ t. q (kind_of (es ++ e ∷ []) t)) x n
    ≡ minutes_between q (last_event es) e x n + (cond (q minute.Other) (shared (first_minute e) (last_minute e) x n) 0 + minutes_where (λ t. q (kind_of es t)) x n)
count-push q work es e lawful next x n =
    let own = minutes_where-or (asks_own q e) (λ t. q (kind_of es t)) (λ t. asks_own q e t || q (kind_of es t)) (λ t. refl) (apart-own q work es e lawful next) x n in
    let all = minutes_where-or (asks_between q (last_event es) e) (λ t. asks_own q e t || q (kind_of es t)) (λ t. q (kind_of (es ++ e ∷ []) t)) (asks-push q work es e lawful next) (apart q work es e lawful next) x n in
    omega (arith, all, own, count-between q (last_event es) e x n, minutes_where-within_if (q minute.Other) (first_minute e) (last_minute e) x n)
