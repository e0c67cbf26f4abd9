-- Days in a row, day by day, and one day more.
use Rattle.std.proofs.Common.{◌≡◌, ℕ, zero, suc, ◌+◌, ◌-◌, ◌<◌, ◌≤◌, ◌==◌, inl, inr, Bool, true, false, ◌||◌, refl, sym, subst, ap, ◌∙◌, arith}
use Rattle.std.proofs.Math.Bool.{or-false}
use Rattle.std.proofs.lemmas.Bool.{cases_eq}
use Rattle.std.proofs.lemmas.Bool.Decides.{nat_tests}
use Rattle.consecutive_days.specs.Run.{run_before, IsRunTo}
use Rattle.consecutive_days.specs.Steps.{next_run}

-- the days in a row, day by day
pub run_before-same : (p q : ℕ → Bool) (day : ℕ) → ((d : ℕ) → d < day → p d ≡ q d) → run_before p day ≡ run_before q day
unfolding run_before
run_before-same p q zero same = refl
run_before-same p q (suc day) same =
    let rest = run_before-same p q day (λ d low. same d (omega (arith, low))) in rw (same day (omega arith), rest) refl

run_before-no : (p : ℕ → Bool) (day : ℕ) → p day ≡ false → run_before p (suc day) ≡ 0
unfolding run_before
run_before-no p day not = rw not refl

run_before-yes : (p : ℕ → Bool) (day : ℕ) → p day ≡ true → run_before p (suc day) ≡ suc (run_before p day)
unfolding run_before
run_before-yes p day is = rw is refl

run_before-zero : (p : ℕ → Bool) → run_before p 0 ≡ 0
unfolding run_before
run_before-zero p = refl

-- no day before is such
run_before-none : (p : ℕ → Bool) (day : ℕ) → ((d : ℕ) → d < day → p d ≡ false) → run_before p day ≡ 0
run_before-none p zero none = run_before-zero p
run_before-none p (suc day) none = run_before-no p day (none day (omega arith))

pub run_before-most : (p : ℕ → Bool) (day : ℕ) → run_before p day ≤ day
run_before-most p zero = omega (arith, run_before-zero p)
run_before-most p (suc day) = go (p day) refl (run_before-most p day)
  where
    go : (b : Bool) → p day ≡ b → run_before p day ≤ day → run_before p (suc day) ≤ suc day
    go true is most = omega (arith, run_before-yes p day is, most)
    go false is most = omega (arith, run_before-no p day is)

-- the run in words
each_back : (p : ℕ → Bool) (day : ℕ) (back : ℕ) → back < run_before p (suc day) → p (day - back) ≡ true
each_back p zero back low = go (p 0) refl
  where
    go : (b : Bool) → p 0 ≡ b → p (0 - back) ≡ true
    go true is = let none : 0 - back ≡ 0 = omega arith in rw none is
    go false is = absurd (omega (arith, low, run_before-no p 0 is))
each_back p (suc day) zero low = go (p (suc day)) refl
  where
    go : (b : Bool) → p (suc day) ≡ b → p (suc day - 0) ≡ true
    go true is = let same : suc day - 0 ≡ suc day = omega arith in rw same is
    go false is = absurd (omega (arith, low, run_before-no p (suc day) is))
each_back p (suc day) (suc back) low = go (p (suc day)) refl (each_back p day back)
  where
    go : (b : Bool) → p (suc day) ≡ b → (back < run_before p (suc day) → p (day - back) ≡ true) → p (suc day - suc back) ≡ true
    go true is rest = let same : suc day - suc back ≡ day - back = omega arith in rw same (rest (omega (arith, low, run_before-yes p (suc day) is)))
    go false is rest = absurd (omega (arith, low, run_before-no p (suc day) is))

stops_back : (p : ℕ → Bool) (day : ℕ) → run_before p (suc day) ≤ day → p (day - run_before p (suc day)) ≡ false
stops_back p zero low = go (p 0) refl
  where
    go : (b : Bool) → p 0 ≡ b → p (0 - run_before p 1) ≡ false
    go true is = absurd (omega (arith, low, run_before-yes p 0 is))
    go false is = let none : 0 - run_before p 1 ≡ 0 = omega arith in rw none is
stops_back p (suc day) low = go (p (suc day)) refl (stops_back p day)
  where
    go : (b : Bool) → p (suc day) ≡ b → (run_before p (suc day) ≤ day → p (day - run_before p (suc day)) ≡ false) → p (suc day - run_before p (suc (suc day))) ≡ false
    go true is rest =
        let more = run_before-yes p (suc day) is in
        let same : suc day - run_before p (suc (suc day)) ≡ day - run_before p (suc day) = omega (arith, more) in
        rw same (rest (omega (arith, low, more)))
    go false is rest =
        let none : suc day - run_before p (suc (suc day)) ≡ suc day = omega (arith, run_before-no p (suc day) is) in rw none is

pub is_run_to : (p : ℕ → Bool) (day : ℕ) → p day ≡ true → IsRunTo p day (run_before p (suc day))
is_run_to p day is = record {
  some = omega (arith, run_before-yes p day is);
  within = omega (arith, run_before-most p (suc day));
  each = each_back p day;
  stops = stops_back p day;
}

-- so many days in a row up to a last one are counted, and no day behind it is such
pub record Counts (p : ℕ → Bool) (run last : ℕ) : Type 0 where
  pub here : p last ≡ true
  pub counts : run ≡ run_before p (suc last)
  pub none_after : (d : ℕ) → last < d → p d ≡ false

-- one day more is such
unfoldable pub also : (ℕ → Bool) → ℕ → (ℕ → Bool) → Type 0
also p day q = (d : ℕ) → q d ≡ (p d || (day == d))

also-other : (p q : ℕ → Bool) (day d : ℕ) → also p day q → (day ≡ d → ⊥) → q d ≡ p d
unfolding also
also-other p q day d is apart = is d ∙ (let not : (day == d) ≡ false = grind (arith, nat_tests, apart) in rw not (or-false (p d)))

also-here : (p q : ℕ → Bool) (day : ℕ) → also p day q → q day ≡ true
unfolding also
also-here p q day is = is day ∙ (let same : (day == day) ≡ true = grind (arith, nat_tests) in rw same (go (p day)))
  where
    go : (b : Bool) → (b || true) ≡ true
    go true = refl
    go false = refl

-- what the days in a row become: the day is the last one, or the next, or another
next-same : (p q : ℕ → Bool) (run last day : ℕ) → Counts p run last → also p day q → day ≡ last → run ≡ run_before q (suc day)
next-same p q run last day counts is same =
    counts.counts ∙ ap (λ d. run_before p (suc d)) (sym same) ∙ run_before-same p q (suc day) (λ d low. go d)
  where
    go : (d : ℕ) → p d ≡ q d
    go d = elim (cases_eq day d) [
      | inl here ↦ subst (λ x. p x ≡ true) (sym same ∙ here) counts.here ∙ sym (subst (λ x. q x ≡ true) here (also-here p q day is))
      | inr apart ↦ sym (also-other p q day d is apart)
    ]

next-after : (p q : ℕ → Bool) (run last day : ℕ) → Counts p run last → also p day q → day ≡ last + 1 → run + 1 ≡ run_before q (suc day)
next-after p q run last day counts is after =
    let more = run_before-yes q day (also-here p q day is) in
    let up : day ≡ suc last = omega (arith, after) in
    let old : run_before q day ≡ run_before q (suc last) = ap (run_before q) up in
    let stays = run_before-same p q (suc last) (λ d low. sym (also-other p q day d is (λ here. omega (arith, here, after, low)))) in
    omega (arith, more, old, stays, counts.counts)

run_before-stops : (p : ℕ → Bool) (day : ℕ) → 0 < day → p (day - 1) ≡ false → run_before p day ≡ 0
run_before-stops p zero some not = absurd (omega (arith, some))
run_before-stops p (suc day) some not = let same : suc day - 1 ≡ day = omega arith in run_before-no p day (subst (λ d. p d ≡ false) same not)

next-apart : (p q : ℕ → Bool) (run last day : ℕ) → Counts p run last → also p day q → last + 1 < day → 1 ≡ run_before q (suc day)
next-apart p q run last day counts is apart =
    let before = also-other p q day (day - 1) is (λ here. omega (arith, here, apart)) ∙ counts.none_after (day - 1) (omega (arith, apart)) in
    omega (arith, run_before-yes q day (also-here p q day is), run_before-stops q day (omega (arith, apart)) before)

counts-some : (p : ℕ → Bool) (run last : ℕ) → Counts p run last → 0 < run
counts-some p run last counts = omega (arith, counts.counts, run_before-yes p last counts.here)

next-counts : (p q : ℕ → Bool) (run last day : ℕ) → Counts p run last → also p day q → last ≤ day → next_run run last day ≡ run_before q (suc day)
next-counts p q run last day counts is order =
    let some = counts-some p run last counts in
    elim (cases_eq day last) [
      | inl same ↦ let h = next-same p q run last day counts is same in grind (arith, nat_tests, h, some, same)
      | inr other ↦ elim (cases_eq day (last + 1)) [
        | inl after ↦ let h = next-after p q run last day counts is after in grind (arith, nat_tests, h, some, other, after)
        | inr apart ↦ let h = next-apart p q run last day counts is (omega (arith, order, other, apart)) in grind (arith, nat_tests, h, other, apart)
      ]
    ]

pub counts-also : (p q : ℕ → Bool) (run last day : ℕ) → Counts p run last → also p day q → last ≤ day → Counts q (next_run run last day) day
counts-also p q run last day counts is order = record {
  here = also-here p q day is;
  counts = next-counts p q run last day counts is order;
  none_after = λ d late. also-other p q day d is (λ here. omega (arith, here, late)) ∙ counts.none_after d (omega (arith, order, late));
}

pub counts-first : (p q : ℕ → Bool) (last day : ℕ) → ((d : ℕ) → p d ≡ false) → also p day q → Counts q (next_run 0 last day) day
counts-first p q last day none is = record {
  here = also-here p q day is;
  counts = omega (arith, run_before-yes q day (also-here p q day is), run_before-none q day (λ d low. also-other p q day d is (λ here. omega (arith, here, low)) ∙ none d));
  none_after = λ d late. also-other p q day d is (λ here. omega (arith, here, late)) ∙ none d;
}
