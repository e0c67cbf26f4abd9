-- When no qualification that is asked is missing, and which numbers are told as missing.
use Rattle.std.proofs.Common.{◌≡◌, ℕ, zero, suc, ◌<◌, ◌≤◌, inl, inr, Bool, true, false, not, ◌&&◌, cond, if◌then◌else◌, Option, None, Some, IsNone, IfSome, refl, sym, ap, ◌∙◌, arith, ◌↔◌, IsTrue}
use Rattle.std.specs.Option.{option_or}
use Rattle.std.proofs.lemmas.Bool.{cases_order}
use Rattle.qualifications.specs.Quals.{has, lowest, lowest_missing, HasAll}
use Rattle.qualifications.proofs.QualsLemmas.{lowest-none}

-- where there is no lowest, none passes
none-passes : (test : ℕ → Bool) (n k : ℕ) → lowest test n ≡ None → k < n → test k ≡ false
unfolding lowest
none-passes test zero k e h = absurd (omega arith)
none-passes test (suc n) k e h =
    let parts = neither (lowest test n) n (test n) e in
    elim (cases_order k n) [
      | inl same ↦ ap test same ∙ parts.1
      | inr apart ↦ elim apart [ inl below ↦ none-passes test n k parts.0 below | inr above ↦ absurd (omega arith) ]
    ]
  where
    neither : (o : Option ℕ) (m : ℕ) (b : Bool) → option_or o (if b then Some m else None) ≡ None → (o ≡ None) × (b ≡ false)
    neither None m true e = cc
    neither None m false e = (refl, refl)
    neither (Some x) m b e = cc

-- nothing asked is missing exactly where each number that is asked is had
lowest_missing-is_none : (had asked : ℕ) → (lowest_missing had asked ≡ None) ↔ HasAll had asked
lowest_missing-is_none had asked = (
  λ e number h is_asked. had_of (has asked number) (has had number) (none-passes (λ i. has asked i && not (has had i)) 64 number e (omega arith)) is_asked,
  λ all. lowest-none (λ i. has asked i && not (has had i)) 64 (λ i h. missing_of (has asked i) (has had i) (all i (omega arith))),
)
  where
    had_of : (a h : Bool) → (a && not h) ≡ false → IsTrue a → IsTrue h
    had_of true true e is_asked = refl
    had_of true false e is_asked = cc
    had_of false h e is_asked = cc

    missing_of : (a h : Bool) → (IsTrue a → IsTrue h) → (a && not h) ≡ false
    missing_of true true f = refl
    missing_of true false f = let wrong : false ≡ true = f refl in cc
    missing_of false h f = refl

pub missing-none : (o : Option ℕ) (had asked : ℕ) → o ≡ lowest_missing had asked → IsNone o ↔ HasAll had asked
missing-none None had asked is = (λ none. (lowest_missing-is_none had asked).0 (sym is), λ all. refl)
missing-none (Some k) had asked is = (λ none. cc, λ all. let none = is ∙ (lowest_missing-is_none had asked).1 all in cc)

-- the lowest number that passes is below n, and so a missing one is at most 63
lowest-below : (test : ℕ → Bool) (n k : ℕ) → lowest test n ≡ Some k → k < n
unfolding lowest
lowest-below test zero k is = cc
lowest-below test (suc n) k is = go (lowest test n) (test n) (lowest-below test n k) is
  where
    go : (lower : Option ℕ) (passes : Bool) → (lower ≡ Some k → k < n) → option_or lower (cond passes (Some n) None) ≡ Some k → k < suc n
    go (Some j) passes below is = omega (arith, below is)
    go None true below is = let same : n ≡ k = cc in omega (arith, same)
    go None false below is = cc

pub missing-most : (o : Option ℕ) (had asked : ℕ) → o ≡ lowest_missing had asked → IfSome o (λ number. number ≤ 63)
missing-most None had asked is = tt
missing-most (Some k) had asked is = omega (arith, lowest-below (λ n. has asked n && not (has had n)) 64 k (sym is))
