-- The lowest number that passes a test, and the bits of what is missing.
use Rattle.std.proofs.Common.{◌≡◌, ℕ, zero, suc, ◌-◌, ◌^◌, ◌<◌, inl, inr, Bool, true, false, not, ◌&&◌, eqb, None, Some, min, bit_and, refl, sym, ap, ◌∙◌, arith, w64}
use Rattle.std.specs.Int.{bit_at, trailing_zeros}
use Rattle.std.proofs.lemmas.Bool.{cases_order, eq-eqb}
use Rattle.std.proofs.lemmas.Bool.Decides.{nat_tests}
use Rattle.std.proofs.lemmas.Nat.Bits.{bit_at_and, bit_at_not, bit_at-lt, bit_at-zero, bit_at-trailing_zeros}
use Rattle.std.proofs.lemmas.Nat.{and_le_l}
use Rattle.qualifications.specs.Quals.{has, lowest, lowest_missing}

-- none passes
pub lowest-none : (test : ℕ → Bool) (n : ℕ) → ((k : ℕ) → k < n → test k ≡ false) → lowest test n ≡ None
unfolding lowest
lowest-none test zero fails = refl
lowest-none test (suc n) fails =
    let before = lowest-none test n (λ k h. fails k (omega arith)) in
    let here = fails n (omega arith) in
    rw (before, here) refl

-- the first that passes is found
pub lowest-first : (test : ℕ → Bool) (n k : ℕ) → k < n → test k ≡ true → ((j : ℕ) → j < k → test j ≡ false) → lowest test n ≡ Some k
unfolding lowest
lowest-first test zero k h passes fails = absurd (omega arith)
lowest-first test (suc n) k h passes fails =
    elim (cases_order k n) [
      | inl same ↦ let none = lowest-none test n (λ j g. fails j (omega arith)) in
          let here : test n ≡ true = ap test (sym same) ∙ passes in
          rw (none, here) (ap Some (sym same))
      | inr apart ↦ elim apart [
        | inl below ↦ let found = lowest-first test n k below passes fails in rw found refl
        | inr above ↦ absurd (omega arith)
      ]
    ]

-- what is missing has the bits that are asked and not had
pub has-missing : (asked had i : ℕ) → had < 2 ^ 64 → i < 64 → (has asked i && not (has had i)) ≡ eqb (bit_at (bit_and asked (2 ^ 64 - 1 - had)) i) 1
has-missing asked had i bound within =
    let both : bit_at (bit_and asked (2 ^ 64 - 1 - had)) i ≡ min (bit_at asked i) (1 - bit_at had i) =
    bit_at_and asked (2 ^ 64 - 1 - had) i ∙ ap (min (bit_at asked i)) (bit_at_not w64 had i bound within) in
    rw both (bits (bit_at asked i) (bit_at had i) (bit_at-lt asked i) (bit_at-lt had i))
  where
    bits : (a h : ℕ) → a < 2 → h < 2 → (eqb a 1 && not (eqb h 1)) ≡ eqb (min a (1 - h)) 1
    bits a h below_a below_h = grind (arith, nat_tests)

-- nothing is missing where no bit is left
pub lowest_missing-none : (asked had : ℕ) → had < 2 ^ 64 → bit_and asked (2 ^ 64 - 1 - had) ≡ 0 → lowest_missing had asked ≡ None
lowest_missing-none asked had bound e =
    lowest-none (λ i. has asked i && not (has had i)) 64 (λ i within.
    has-missing asked had i bound within ∙ ap (λ n. eqb (bit_at n i) 1) e ∙ ap (λ b. eqb b 1) (bit_at-zero i))

-- else the lowest bit that is left is the lowest number that is missing
pub lowest_missing-some : (asked had : ℕ) → asked < 2 ^ 64 → had < 2 ^ 64 → ¬ (bit_and asked (2 ^ 64 - 1 - had) ≡ 0)
    → lowest_missing had asked ≡ Some (trailing_zeros w64 (bit_and asked (2 ^ 64 - 1 - had)))
lowest_missing-some asked had small bound some =
    let missing = bit_and asked (2 ^ 64 - 1 - had) in
    let positive : 0 < missing = omega (arith, some) in
    let below : missing < 2 ^ 64 = omega (arith, and_le_l asked (2 ^ 64 - 1 - had)) in
    let zeros = bit_at-trailing_zeros w64 missing positive below in
    lowest-first (λ i. has asked i && not (has had i)) 64 (trailing_zeros w64 missing) zeros.0
    (has-missing asked had _ bound zeros.0 ∙ eq-eqb _ 1 zeros.1)
    (λ i lower. has-missing asked had i bound (omega (arith, zeros.0)) ∙ ap (λ b. eqb b 1) (zeros.2 i lower))
