-- Bits that are set.
use Rattle.std.proofs.Common.{◌≡◌, ◌≢◌, ◌<◌, ◌^◌, ◌*◌, ◌/◌, ◌%◌, ◌||◌, ◌&&◌, nat_lt, ◌∙◌, ◌==◌, ℕ, Bool, true, false, List, length, nat_eq, slice_index_or, slice_set, bit_or, refl, sym, ap, arith, w64}
use Rattle.std.proofs.lemmas.Bool.Decides.{nat_tests}
use Rattle.std.proofs.lemmas.List.{get_or-set_same, get_or-set_other}
use Rattle.std.proofs.lemmas.Nat.Bits.{bit_at_set_same, bit_at_set_other}
use Rattle.std.specs.Int.{bit_at}
use Rattle.desk_register.specs.Words.{has_index}
use Rattle.desk_register.specs.TurnedDown.{bit_of, turned_in}

-- the word with the bit of this number set
abbrev pub with_bit : ℕ → ℕ → ℕ
with_bit word k = bit_or word (1 * 2 ^ k % 18446744073709551616)

bit-set : (word k j : ℕ) → k < 64 → (bit_at (with_bit word k) j == 1) ≡ (nat_eq k j || (bit_at word j == 1))
bit-set word k j within = go (nat_eq k j) refl
  where
    go : (here : Bool) → nat_eq k j ≡ here → (bit_at (with_bit word k) j == 1) ≡ (here || (bit_at word j == 1))
    go true here = let is : j ≡ k = grind (arith, nat_tests, here) in rw is (ap (λ x. x == 1) (bit_at_set_same w64 word k within))
    go false here = ap (λ x. x == 1) (bit_at_set_other w64 word k within j grind (arith, nat_tests, here))

same-index : (index i : ℕ) → index / 64 ≡ i / 64 → nat_eq index i ≡ nat_eq (index % 64) (i % 64)
same-index index i words = grind (arith, nat_tests, words)

pub inserted : (words : List ℕ) (index i : ℕ) → index / 64 < length words
    → has_index (slice_set words (index / 64) (with_bit (slice_index_or words (index / 64) 0) (index % 64))) i ≡ (nat_eq index i || has_index words i)
inserted words index i within = go (nat_eq (index / 64) (i / 64)) refl
  where
    go : (here : Bool) → nat_eq (index / 64) (i / 64) ≡ here
        → has_index (slice_set words (index / 64) (with_bit (slice_index_or words (index / 64) 0) (index % 64))) i ≡ (nat_eq index i || has_index words i)
    go true here =
        let is : index / 64 ≡ i / 64 = grind (arith, nat_tests, here) in
        rw (same-index index i is, sym is, get_or-set_same words (index / 64) (with_bit (slice_index_or words (index / 64) 0) (index % 64)) 0 within)
        (bit-set (slice_index_or words (index / 64) 0) (index % 64) (i % 64) (omega arith))
    go false here =
        let apart : i / 64 ≢ index / 64 = grind (arith, nat_tests, here) in
        let other : nat_eq index i ≡ false = grind (arith, nat_tests, here) in
        rw (other, get_or-set_other words (index / 64) (i / 64) (with_bit (slice_index_or words (index / 64) 0) (index % 64)) 0 apart) refl

pub and-false : (b : Bool) → (b && false) ≡ false
and-false true = refl
and-false false = refl

or-turned : (a b : Bool) → (a || b) ≡ (b || a)
or-turned true true = refl
or-turned true false = refl
or-turned false true = refl
or-turned false false = refl

-- ---- bits of persons and vacancies

-- the bit of one of each is that of another of each just where both are the same
same-bit : (person vacancy i j : ℕ) → person < 1024 → i < 1024 → nat_eq (bit_of person vacancy) (bit_of i j) ≡ (nat_eq person i && nat_eq vacancy j)
same-bit person vacancy i j low within = go (nat_eq person i) (nat_eq vacancy j) refl refl
  where
    go : (a b : Bool) → nat_eq person i ≡ a → nat_eq vacancy j ≡ b → nat_eq (bit_of person vacancy) (bit_of i j) ≡ (a && b)
    go true b x y = grind (arith, nat_tests, x, y)
    go false true x y = grind (arith, nat_tests, x, y)
    go false false x y = grind (arith, nat_tests, x, y, low, within)

-- where a bit is set, that is kept of the two, and of all others what was
pub turned-inserted : (words old : List ℕ) (person vacancy : ℕ) → person < 1024 → bit_of person vacancy / 64 < length words
    → ((i : ℕ) → slice_index_or words i 0 ≡ slice_index_or old i 0) → (i j : ℕ)
    → turned_in (slice_set words (bit_of person vacancy / 64) (with_bit (slice_index_or words (bit_of person vacancy / 64) 0) (bit_of person vacancy % 64))) i j
    ≡ (turned_in old i j || (nat_eq person i && nat_eq vacancy j))
turned-inserted words old person vacancy low within same i j = go (nat_lt i 1024) refl
  where
    bit : ℕ
    bit = bit_of person vacancy

    set : List ℕ
    set = slice_set words (bit / 64) (with_bit (slice_index_or words (bit / 64) 0) (bit % 64))

    go : (here : Bool) → nat_lt i 1024 ≡ here → (here && has_index set (bit_of i j)) ≡ ((here && has_index old (bit_of i j)) || (nat_eq person i && nat_eq vacancy j))
    go true here =
        let short : i < 1024 = grind (arith, nat_tests, here) in
        inserted words bit (bit_of i j) within
        ∙ ap (λ x. x || has_index words (bit_of i j)) (same-bit person vacancy i j low short)
        ∙ or-turned (nat_eq person i && nat_eq vacancy j) (has_index words (bit_of i j))
        ∙ ap (λ w. (bit_at w (bit_of i j % 64) == 1) || (nat_eq person i && nat_eq vacancy j)) (same (bit_of i j / 64))
    go false here =
        let other : nat_eq person i ≡ false = grind (arith, nat_tests, here, low) in
        rw other refl
