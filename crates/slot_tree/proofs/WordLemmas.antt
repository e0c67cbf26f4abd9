-- The bits of words, counted.
use Rattle.std.proofs.Common.{◌≡◌, ◌≢◌, ℕ, zero, suc, ◌+◌, ◌-◌, ◌*◌, ◌/◌, ◌%◌, ◌^◌, ◌<◌, ◌≤◌, ◌==◌, min, false, inl, inr, Option, None, Some, is_some, List, [], ◌∷◌, length, take, set, cond, slice_index, nat_lt, bit_and, refl, sym, ap, ◌∙◌, arith}
use Rattle.std.specs.Int.{bit_at}
use Rattle.std.specs.Int.RustNames.{count_ones}
use Rattle.std.proofs.lemmas.Bool.{cases_eq, cases_lt, lt-ltb, le-ltb}
use Rattle.std.proofs.lemmas.List.{get_or-set_same, get_or-set_other, get_or_past, take_all}
use Rattle.std.proofs.lemmas.Nat.{mod-pow-add, mod_below, pow_pos, ones_cat, ones-le, one_shl, and_mask}
use Rattle.std.proofs.lemmas.Nat.Bits.{bit_at-zero, bit_at_ones, bit_at_ones_above}
use Rattle.slot_tree.specs.declared.slot.Slot.{Slot}
use Rattle.slot_tree.specs.Slots.{slot_at, filled}
use Rattle.slot_tree.specs.Search.{FindsFilled}
use Rattle.slot_tree.proofs.SlotLemmas.{slot_at-written, slot_at-others}
use Rattle.slot_tree.specs.Words.{has_bit, bits_before, TellFilled, FindsBit}

-- ---- one word

-- the bits set among the first of a word are those among fewer, and those behind them
pub ones-split : (n a b : ℕ) → count_ones (n % 2 ^ (a + b)) ≡ count_ones (n % 2 ^ a) + count_ones (n / 2 ^ a % 2 ^ b)
ones-split n a b =
    let turned : a + b ≡ b + a = omega arith in
    let parts : n % 2 ^ (a + b) ≡ (n / 2 ^ a % 2 ^ b) * 2 ^ a + n % 2 ^ a = ap (λ k. n % 2 ^ k) turned ∙ mod-pow-add n b a in
    ap count_ones parts ∙ ones_cat a (n / 2 ^ a % 2 ^ b) (n % 2 ^ a) (mod_below n (2 ^ a) (pow_pos a)) ∙ omega arith

ones-few : (n k : ℕ) → count_ones (n % 2 ^ k) ≤ k
ones-few n k = ones-le k (n % 2 ^ k) (mod_below n (2 ^ k) (pow_pos k))

-- those that a mask leaves are the first
pub ones-lower : (n k : ℕ) → k < 64 → count_ones (bit_and n (1 * 2 ^ k % 2 ^ 64 - 1)) ≡ count_ones (n % 2 ^ k)
ones-lower n k low = ap (λ m. count_ones (bit_and n (m - 1))) (one_shl k 64 low) ∙ ap count_ones (and_mask n k)

-- a bit counts as what it is
one-bit : (b : ℕ) → b < 2 → count_ones b ≡ b
unfolding count_ones
one-bit zero low = refl
one-bit (suc zero) low = refl
one-bit (suc (suc b)) low = absurd (omega (arith, low))

ones-bit : (n : ℕ) → count_ones (n % 2 ^ 1) ≡ n % 2
ones-bit n = one-bit (n % 2) (omega arith)

-- ---- words of 64 bits

pub bit-in : (words : List ℕ) (w k : ℕ) → k < 64 → has_bit words (64 * w + k) ≡ (bit_at (slice_index words w) k == 1)
bit-in words w k low =
    let word : (64 * w + k) / 64 ≡ w = omega (arith, low) in
    let bit : (64 * w + k) % 64 ≡ k = omega (arith, low) in
    rw (word, bit) refl

counts-one : (n k : ℕ) → cond (bit_at n k == 1) 1 0 ≡ bit_at n k
counts-one n k = go (bit_at n k) (omega arith)
  where
    go : (b : ℕ) → b < 2 → cond (b == 1) 1 0 ≡ b
    go zero low = refl
    go (suc zero) low = refl
    go (suc (suc b)) low = absurd (omega (arith, low))

-- the bits before one are those of the words before its own, and those of its own before it
pub bits-word : (words : List ℕ) (w k : ℕ) → k ≤ 64 → bits_before words (64 * w + k) ≡ bits_before words (64 * w) + count_ones (slice_index words w % 2 ^ k)
unfolding bits_before
bits-word words w zero low =
    let same : 64 * w + 0 ≡ 64 * w = omega arith in
    omega (arith, ap (bits_before words) same, ones-few (slice_index words w) 0)
bits-word words w (suc k) low =
    let word : ℕ = slice_index words w in
    let next : 64 * w + suc k ≡ suc (64 * w + k) = omega arith in
    let here : cond (has_bit words (64 * w + k)) 1 0 ≡ bit_at word k = ap (λ b. cond b 1 0) (bit-in words w k (omega (arith, low))) ∙ counts-one word k in
    let more : count_ones (word % 2 ^ suc k) ≡ count_ones (word % 2 ^ k) + bit_at word k =
    ap (λ j. count_ones (word % 2 ^ j)) (omega arith) ∙ ones-split word k 1 ∙ ap (λ n. count_ones (word % 2 ^ k) + n) (ones-bit (word / 2 ^ k)) in
    ap (bits_before words) next ∙ omega (arith, bits-word words w k (omega (arith, low)), here, more)

-- of words of 64 bits the whole one counts
pub bits-whole : (words : List ℕ) (w : ℕ) → slice_index words w < 2 ^ 64 → bits_before words (64 * w + 64) ≡ bits_before words (64 * w) + count_ones (slice_index words w)
bits-whole words w fits = bits-word words w 64 (omega arith) ∙ ap (λ n. bits_before words (64 * w) + count_ones n) (omega (arith, fits))

-- none is behind the last word
pub no-bit : (words : List ℕ) (i : ℕ) → 64 * length words ≤ i → has_bit words i ≡ false
no-bit words i behind =
    let none : slice_index words (i / 64) ≡ 0 = get_or_past words (i / 64) 0 (omega (arith, behind)) in
    ap (λ n. bit_at n (i % 64) == 1) none ∙ ap (λ b. b == 1) (bit_at-zero (i % 64))

pub bits-behind : (words : List ℕ) (m n : ℕ) → 64 * length words ≤ m → m ≤ n → bits_before words n ≡ bits_before words m
unfolding bits_before
bits-behind words m zero all low =
    let none : m ≡ 0 = omega (arith, low) in
    ap (bits_before words) (sym none)
bits-behind words m (suc n) all low = elim (cases_lt m (suc n)) [
  | inl less ↦
      let here : cond {A = ℕ} (has_bit words n) 1 0 ≡ 0 = ap {B = ℕ} (λ b. cond b 1 0) (no-bit words n (omega (arith, all, less))) in
      omega (arith, bits-behind words m n all (omega (arith, less)), here)
  | inr same ↦
      let is : suc n ≡ m = omega (arith, low, same) in
      ap (bits_before words) is
]

-- ---- bits that are written

-- the bits of words of which one was written
pub written-this : (words : List ℕ) (slot later : ℕ) → slot / 64 < length words → has_bit (set words (slot / 64) later) slot ≡ (bit_at later (slot % 64) == 1)
written-this words slot later within = ap (λ n. bit_at n (slot % 64) == 1) (get_or-set_same words (slot / 64) later 0 within)

pub written-others : (words : List ℕ) (slot later i : ℕ) → slot / 64 < length words → i ≢ slot → ((k : ℕ) → k < 64 → k ≢ slot % 64 → bit_at later k ≡ bit_at (slice_index words (slot / 64)) k)
    → has_bit (set words (slot / 64) later) i ≡ has_bit words i
written-others words slot later i within apart others = elim (cases_eq (i / 64) (slot / 64)) [
  | inl same ↦
      let bit : i % 64 ≢ slot % 64 = omega (arith, same, apart) in
      rw (same, get_or-set_same words (slot / 64) later 0 within) (ap (λ b. b == 1) (others (i % 64) (omega arith) bit))
  | inr other ↦ ap (λ n. bit_at n (i % 64) == 1) (get_or-set_other words (slot / 64) (i / 64) later 0 other)
]

-- the bits at the front, up to the end of a word
pub front-written : (words : List ℕ) (many w : ℕ) → w < length words → ((i : ℕ) → i < 64 * w → has_bit words i ≡ nat_lt i many)
    → (i : ℕ) → i < 64 * w + 64 → has_bit (set words w (2 ^ min (many - 64 * w) 64 - 1)) i ≡ nat_lt i many
front-written words many w within before i low = elim (cases_eq (i / 64) w) [
  | inl same ↦
      rw (same, get_or-set_same words w (2 ^ min (many - 64 * w) 64 - 1) 0 within) (elim (cases_lt (i % 64) (min (many - 64 * w) 64)) [
        | inl first ↦ ap (λ b. b == 1) (bit_at_ones (min (many - 64 * w) 64) (i % 64) first) ∙ sym (lt-ltb i many (omega (arith, first, same)))
        | inr behind ↦ ap (λ b. b == 1) (bit_at_ones_above (min (many - 64 * w) 64) (i % 64) behind) ∙ sym (le-ltb i many (omega (arith, behind, same)))
      ])
  | inr other ↦ ap (λ n. bit_at n (i % 64) == 1) (get_or-set_other words w (i / 64) (2 ^ min (many - 64 * w) 64 - 1) 0 other) ∙ before i (omega (arith, low, other))
]

-- ---- slots

counts-more : (slots : List (Option Slot)) (n : ℕ) → length (filled (take (suc n) slots)) ≡ length (filled (take n slots)) + cond (is_some (slot_at slots n)) 1 0
counts-more [] zero = refl
counts-more [] (suc n) = refl
counts-more (None ∷ xs) zero = refl
counts-more (Some x ∷ xs) zero = refl
counts-more (None ∷ xs) (suc n) = counts-more xs n
counts-more (Some x ∷ xs) (suc n) = omega (arith, counts-more xs n)

-- as many bits are set before one as slots are filled before it
pub counts-filled : (slots : List (Option Slot)) (words : List ℕ) (n : ℕ) → TellFilled slots words → bits_before words n ≡ length (filled (take n slots))
unfolding bits_before
counts-filled slots words zero told = refl
counts-filled slots words (suc n) told =
    let here : cond {A = ℕ} (has_bit words n) 1 0 ≡ cond (is_some (slot_at slots n)) 1 0 = ap {B = ℕ} (λ b. cond b 1 0) (told n) in
    omega (arith, counts-filled slots words n told, here, counts-more slots n)

-- and the one that was found is the slot's
pub finds-filled : (slots : List (Option Slot)) (words : List ℕ) (position : ℕ) (at : Option ℕ) → length slots ≤ 1024 → TellFilled slots words → FindsBit words position at → FindsFilled slots position at
finds-filled slots words position None few told none = λ some.
    let all : bits_before words 1024 ≡ length (filled slots) = counts-filled slots words 1024 told ∙ ap (λ xs. length (filled xs)) (take_all 1024 slots few) in
    omega (arith, all, none some)
finds-filled slots words position (Some at) few told found = record {
  filled_there = sym (told at) ∙ found.0;
  before = omega (arith, found.1, counts-filled slots words at told);
}

-- a slot was written, and its bit with it
pub told-written : (slots : List (Option Slot)) (words new_words : List ℕ) (slot : ℕ) (x : Option Slot) → slot < length slots → TellFilled slots words
    → has_bit new_words slot ≡ is_some x → ((i : ℕ) → i ≢ slot → has_bit new_words i ≡ has_bit words i) → TellFilled (set slots slot x) new_words
told-written slots words new_words slot x within told this others i = elim (cases_eq i slot) [
  | inl same ↦ rw same (this ∙ ap is_some (sym (slot_at-written slots slot x within)))
  | inr other ↦ others i other ∙ told i ∙ ap is_some (sym (slot_at-others slots slot i x other))
]
