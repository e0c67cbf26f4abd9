-- Since when someone is off, one event more.
use Rattle.std.proofs.Common.{◌≡◌, ℕ, zero, suc, ◌+◌, ◌-◌, ◌<◌, ◌≤◌, ◌⊎◌, Bool, true, false, cond, ◌&&◌, nat_lt, inl, inr, List, [], ◌∷◌, ◌++◌, take, length, refl, sym, subst, ap, ◌∙◌, arith}
use Rattle.std.proofs.lemmas.Bool.{cases_lt, cases_eq, lt-ltb, le-ltb}
use Rattle.std.proofs.lemmas.List.{take_all}
use Rattle.desk_base.specs.Minute.{IsInYears}
use Rattle.duty_events.specs.declared.event.Event.{Event}
use Rattle.duty_events.specs.Allowed.{first_minute, last_minute}
use Rattle.duty_events.specs.Lists.{IsNext, IsLawful, stage_of, last_event, reached}
use Rattle.duty_events.specs.MinuteKind.{is_worked}
use Rattle.duty_events.specs.Between.{kind_until}
use Rattle.duty_events.proofs.ListLemmas.{last_event-push}
use Rattle.duty_events.proofs.EventLemmas.{follows-reached, kind_of-stays, kind_of-until, kind_of-within}
use Rattle.duty_events.proofs.PointLemmas.{asks-late}
use Rattle.rest_rules.specs.OffFrom.{works, past_last, off_from, IsOffFrom, end_after, off_after}

past_last-zero : (holds : ℕ → Bool) → past_last holds 0 ≡ 0
unfolding past_last
past_last-zero holds = refl

past_last-here : (holds : ℕ → Bool) (t : ℕ) → holds t ≡ true → past_last holds (suc t) ≡ suc t
unfolding past_last
past_last-here holds t is = rw is refl

past_last-not : (holds : ℕ → Bool) (t : ℕ) → holds t ≡ false → past_last holds (suc t) ≡ past_last holds t
unfolding past_last
past_last-not holds t is = rw is refl

past_last-same : (was holds : ℕ → Bool) (n : ℕ) → ((t : ℕ) → t < n → holds t ≡ was t) → past_last holds n ≡ past_last was n
past_last-same was holds zero same = past_last-zero holds ∙ sym (past_last-zero was)
past_last-same was holds (suc n) same = go (was n) refl (past_last-same was holds n (λ t low. same t (omega (arith, low))))
  where
    go : (b : Bool) → was n ≡ b → past_last holds n ≡ past_last was n → past_last holds (suc n) ≡ past_last was (suc n)
    go true is rest = past_last-here holds n (same n (omega arith) ∙ is) ∙ sym (past_last-here was n is)
    go false is rest = past_last-not holds n (same n (omega arith) ∙ is) ∙ rest ∙ sym (past_last-not was n is)

-- it holds of all minutes more, or of none
past_last-all : (holds : ℕ → Bool) (from n : ℕ) → 0 < n → ((t : ℕ) → from ≤ t → t < from + n → holds t ≡ true) → past_last holds (from + n) ≡ from + n
past_last-all holds from zero some all = absurd (omega (arith, some))
past_last-all holds from (suc n) some all =
    ap (past_last holds) (omega arith) ∙ past_last-here holds (from + n) (all (from + n) (omega arith) (omega arith)) ∙ omega arith

past_last-none : (holds : ℕ → Bool) (from n : ℕ) → ((t : ℕ) → from ≤ t → t < from + n → holds t ≡ false) → past_last holds (from + n) ≡ past_last holds from
past_last-none holds from zero none = ap (past_last holds) (omega arith)
past_last-none holds from (suc n) none =
    ap (past_last holds) (omega arith)
    ∙ past_last-not holds (from + n) (none (from + n) (omega arith) (omega arith))
    ∙ past_last-none holds from n (λ t low high. none t low (omega (arith, high)))

past_last-after : (holds : ℕ → Bool) (are : Bool) (from to : ℕ) → from ≤ to → ((t : ℕ) → from ≤ t → t < to → holds t ≡ are)
    → past_last holds to ≡ end_after (past_last holds from) are from to
past_last-after holds are from to order all = go are all
  where
    join : from + (to - from) ≡ to
    join = omega (arith, order)

    go : (b : Bool) → ((t : ℕ) → from ≤ t → t < to → holds t ≡ b) → past_last holds to ≡ end_after (past_last holds from) b from to
    go false none = ap (past_last holds) (sym join) ∙ past_last-none holds from (to - from) (λ t low high. none t low (omega (arith, high, order)))
    go true each = elim (cases_lt from to) [
      | inl less ↦
          ap (past_last holds) (sym join)
          ∙ past_last-all holds from (to - from) (omega (arith, less)) (λ t low high. each t low (omega (arith, high, order)))
          ∙ join ∙ rw (lt-ltb from to less) refl
      | inr more ↦ let same : to ≡ from = omega (arith, order, more) in ap (past_last holds) same ∙ rw (le-ltb from to more) refl
    ]

-- it lies in the years where what it is made of does
pub end_after-range : (end : ℕ) (are : Bool) (from to : ℕ) → IsInYears to → (end ≡ 0) ⊎ IsInYears end → (end_after end are from to ≡ 0) ⊎ IsInYears (end_after end are from to)
end_after-range end are from to in_years range = go (are && nat_lt from to)
  where
    go : (b : Bool) → (cond b to end ≡ 0) ⊎ IsInYears (cond b to end)
    go true = inr in_years
    go false = range

-- what it is
past_last-last : (holds : ℕ → Bool) (n : ℕ) → 0 < past_last holds n → holds (past_last holds n - 1) ≡ true
past_last-last holds zero some = absurd (omega (arith, some, past_last-zero holds))
past_last-last holds (suc n) some = go (holds n) refl (past_last-last holds n)
  where
    go : (b : Bool) → holds n ≡ b → (0 < past_last holds n → holds (past_last holds n - 1) ≡ true) → holds (past_last holds (suc n) - 1) ≡ true
    go true is rest = ap holds (omega (arith, past_last-here holds n is)) ∙ is
    go false is rest =
        let same = past_last-not holds n is in
        ap holds (omega (arith, same)) ∙ rest (omega (arith, some, same))

past_last-beyond : (holds : ℕ → Bool) (n t : ℕ) → past_last holds n ≤ t → t < n → holds t ≡ false
past_last-beyond holds zero t from to = absurd (omega (arith, to))
past_last-beyond holds (suc n) t from to = go (holds n) refl (past_last-beyond holds n t)
  where
    go : (b : Bool) → holds n ≡ b → (past_last holds n ≤ t → t < n → holds t ≡ false) → holds t ≡ false
    go true is rest = absurd (omega (arith, from, to, past_last-here holds n is))
    go false is rest = elim (cases_eq n t) [
      | inl here ↦ subst (λ u. holds u ≡ false) here is
      | inr other ↦ rest (omega (arith, from, past_last-not holds n is)) (omega (arith, to, other))
    ]

past_last-most : (holds : ℕ → Bool) (n : ℕ) → past_last holds n ≤ n
past_last-most holds zero = omega (arith, past_last-zero holds)
past_last-most holds (suc n) = go (holds n) refl (past_last-most holds n)
  where
    go : (b : Bool) → holds n ≡ b → past_last holds n ≤ n → past_last holds (suc n) ≤ suc n
    go true is rest = omega (arith, past_last-here holds n is)
    go false is rest = omega (arith, past_last-not holds n is, rest)

-- what the minute is since which someone is off
pub off_from-is : (es : List Event) → IsLawful es → IsOffFrom es (off_from es)
unfolding off_from
off_from-is es lawful = record {
  last = past_last-last (works es) (reached (last_event es));
  after = λ t from. elim (cases_lt t (reached (last_event es))) [
    | inl early ↦ past_last-beyond (works es) (reached (last_event es)) t from early
    | inr late ↦ asks-late is_worked (refl, refl) es lawful t late
  ];
}

pub off_from-most : (es : List Event) → off_from es ≤ reached (last_event es)
unfolding off_from
off_from-most es = past_last-most (works es) (reached (last_event es))

pub off_from-nil : off_from [] ≡ 0
unfolding off_from
off_from-nil = past_last-zero (works [])

-- one event more
off_from-last : (es : List Event) (e : Event) → off_from (es ++ e ∷ []) ≡ past_last (works (es ++ e ∷ [])) (last_minute e)
unfolding off_from
off_from-last es e = ap (λ o. past_last (works (es ++ e ∷ [])) (reached o)) (last_event-push es e)

off_from-old : (es : List Event) (e : Event) → IsLawful es → IsNext es e → past_last (works (es ++ e ∷ [])) (reached (last_event es)) ≡ off_from es
unfolding off_from
off_from-old es e lawful next =
    past_last-same (works es) (works (es ++ e ∷ [])) (reached (last_event es)) (λ t early. ap is_worked (kind_of-stays es e lawful next t early))

pub off_from-push : (es : List Event) (e : Event) → IsLawful es → IsNext es e → off_from (es ++ e ∷ []) ≡ off_after (off_from es) (last_event es) e
off_from-push es e lawful next =
    let now = works (es ++ e ∷ []) in
    let before = last_event es in
    off_from-last es e
    ∙ past_last-after now true (first_minute e) (last_minute e) next.whole (λ t from to. ap is_worked (kind_of-within es e lawful next t from to))
    ∙ ap (λ end. end_after end true (first_minute e) (last_minute e))
    (past_last-after now (is_worked (kind_until before e)) (reached before) (first_minute e) (follows-reached before (stage_of es) e next) (λ t from to. ap is_worked (kind_of-until es e lawful next t from to))
    ∙ ap (λ end. end_after end (is_worked (kind_until before e)) (reached before) (first_minute e)) (off_from-old es e lawful next))

pub off_from-whole : (es : List Event) (i : ℕ) → length es ≤ i → off_from (take i es) ≡ off_from es
off_from-whole es i past = ap off_from (take_all i es past)
