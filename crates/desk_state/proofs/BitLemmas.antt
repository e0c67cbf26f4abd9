-- Boards as the bits of a word.
use Rattle.std.proofs.Common.{◌≡◌, ◌≢◌, ◌<◌, ◌^◌, ◌*◌, ◌%◌, ◌&&◌, ◌==◌, ℕ, zero, suc, replicate, Bool, true, false, cond, nat_eq, nat_lt, slice_index_or, bit_or, bit_and, refl, sym, ap, ◌∙◌, arith, w64}
use Rattle.std.specs.Prelude.{if◌then◌else◌}
use Rattle.std.proofs.lemmas.Bool.Decides.{nat_tests}
use Rattle.std.proofs.lemmas.Nat.Bits.{bit_at_set_same, bit_at_set_other, bit_at_clear_same, bit_at_clear_other, bit_at-zero, bit_at-trailing_zeros, bit_at_and, bit_at-lt}
use Rattle.std.proofs.lemmas.Nat.{and_le_l}
use Rattle.std.proofs.lemmas.Bool.{false≢true}
use Rattle.std.specs.Int.{bit_at, bit_not, trailing_zeros}
use Rattle.desk_model.specs.declared.limits.TheConstants.{BOARD_LIMIT}
use Rattle.desk_state.specs.Words.{has_board, is_in}

pub no-board : (j : ℕ) → has_board 0 j ≡ false
no-board j = go (nat_lt j BOARD_LIMIT)
  where
    go : (b : Bool) → (b && (bit_at 0 j == 1)) ≡ false
    go true = rw (bit_at-zero j) refl
    go false = refl

-- a word of which one bit was written
changed : (word later k j : ℕ) (to : Bool) → k < 64 → (bit_at later k == 1) ≡ to → ((i : ℕ) → i < 64 → i ≢ k → bit_at later i ≡ bit_at word i)
    → has_board later j ≡ (if nat_eq k j then to else has_board word j)
changed word later k j to within this others = go (nat_eq k j) (nat_lt j BOARD_LIMIT) refl refl
  where
    go : (here inside : Bool) → nat_eq k j ≡ here → nat_lt j BOARD_LIMIT ≡ inside → (inside && (bit_at later j == 1)) ≡ cond here to (inside && (bit_at word j == 1))
    go true true x y = let is : j ≡ k = grind (arith, nat_tests, x) in rw is this
    go true false x y = absurd grind (arith, nat_tests, x, y, within)
    go false true x y = ap (λ b. b == 1) (others j grind (arith, nat_tests, y) grind (arith, nat_tests, x))
    go false false x y = refl

pub set-board : (word k j : ℕ) → k < 64 → has_board (bit_or word (1 * 2 ^ k % 18446744073709551616)) j ≡ (if nat_eq k j then true else has_board word j)
set-board word k j within = changed word (bit_or word (1 * 2 ^ k % 18446744073709551616)) k j true within (ap (λ x. x == 1) (bit_at_set_same w64 word k within)) (λ i low apart. bit_at_set_other w64 word k within i apart)

pub clear-board : (word k j : ℕ) → k < 64 → has_board (bit_and word (bit_not w64 (1 * 2 ^ k % 18446744073709551616))) j ≡ (if nat_eq k j then false else has_board word j)
clear-board word k j within = changed word (bit_and word (bit_not w64 (1 * 2 ^ k % 18446744073709551616))) k j false within (ap (λ x. x == 1) (bit_at_clear_same w64 word k within))
    (λ i low apart. bit_at_clear_other w64 word k within i low apart)

-- without a board that it has it is less
pub clear-lesser : (word k : ℕ) → k < 64 → has_board word k ≡ true → bit_and word (bit_not w64 (1 * 2 ^ k % 18446744073709551616)) < word
clear-lesser word k within has =
    let later = bit_and word (bit_not w64 (1 * 2 ^ k % 18446744073709551616)) in
    let here : nat_eq k k ≡ true = grind (arith, nat_tests) in
    let gone : has_board later k ≡ false = clear-board word k k within ∙ ap (λ t. if t then false else has_board word k) here in
    omega (arith, and_le_l word (bit_not w64 (1 * 2 ^ k % 18446744073709551616)), λ (e : later ≡ word). false≢true (sym gone ∙ ap (λ w. has_board w k) e ∙ has))

-- the index of the lowest 1 is that of a board
pub first-board : (word : ℕ) → 0 < word → word < 2 ^ 64 → (trailing_zeros w64 word < 64) × (has_board word (trailing_zeros w64 word) ≡ true)
first-board word some fits =
    let lowest = bit_at-trailing_zeros w64 word some fits in
    let low : nat_lt (trailing_zeros w64 word) BOARD_LIMIT ≡ true = grind (arith, nat_tests, lowest.0) in
    (lowest.0, ap (λ t. t && (bit_at word (trailing_zeros w64 word) == 1)) low ∙ ap (λ x. x == 1) lowest.1)

-- what two words have both has each
pub both-have : (a b j : ℕ) → has_board (bit_and a b) j ≡ true → (has_board a j ≡ true) × (has_board b j ≡ true)
both-have a b j both = go (nat_lt j BOARD_LIMIT) both
  where
    go : (low : Bool) → (low && (bit_at (bit_and a b) j == 1)) ≡ true → ((low && (bit_at a j == 1)) ≡ true) × ((low && (bit_at b j == 1)) ≡ true)
    go true is =
        let one : bit_at (bit_and a b) j ≡ 1 = grind (arith, nat_tests, is) in (
          grind (arith, nat_tests, one, bit_at_and a b j, bit_at-lt a j, bit_at-lt b j),
          grind (arith, nat_tests, one, bit_at_and a b j, bit_at-lt a j, bit_at-lt b j),
        )
    go false is = absurd (false≢true is)

-- words of no board
no-word : (n i : ℕ) → slice_index_or {A = ℕ} (replicate n 0) i 0 ≡ 0
no-word zero i = refl
no-word (suc n) zero = refl
no-word (suc n) (suc i) = no-word n i

pub no-words : (n i j : ℕ) → is_in (replicate n 0) i j ≡ false
no-words n i j = ap (λ w. has_board w j) (no-word n i) ∙ no-board j
