-- Positions on a board and slots of its tree.
use Rattle.std.proofs.Common.{◌≡◌, ℕ, zero, suc, ◌+◌, ◌-◌, ◌<◌, ◌≤◌, true, false, inl, inr, Option, None, Some, is_some, List, [], ◌∷◌, length, take, slice_get, refl, sym, ap, ◌∙◌, arith}
use Rattle.std.specs.Option.{option_map}
use Rattle.std.proofs.lemmas.Bool.{false≢true, ne_eqb, cases_lt}
use Rattle.std.proofs.lemmas.List.{take_all}
use Rattle.std.proofs.lemmas.Option.{slice_get-map, slice_get_past}
use Rattle.slot_tree.specs.declared.slot.Slot.{Slot}
use Rattle.slot_tree.specs.Slots.{slot_at, is_ready, filled}
use Rattle.slot_tree.specs.Search.{IsFirstReady, FindsReady, IsFilledAs}
use Rattle.pool_board.specs.Members.{persons}
use Rattle.pool_board.specs.Positions.{at_position, IsFirstReadyPosition, FindsReadyPosition}

pub at_position-next : {X : Type 0} (xs : List X) (n : ℕ) → at_position xs (n + 1) ≡ slice_get xs n
at_position-next xs n =
    let none : n + 1 - 1 ≡ n = omega arith in
    rw (ne_eqb (n + 1) 0 (λ is. omega (arith, is))) (ap (slice_get xs) none)

pub at_position-from : {X : Type 0} (xs : List X) (k : ℕ) → 1 ≤ k → at_position xs k ≡ slice_get xs (k - 1)
at_position-from xs k some = rw (ne_eqb k 0 (λ is. omega (arith, is, some))) refl

-- a filled slot holds the member with as many members before it as slots filled before
pub filled-there : (slots : List (Option Slot)) (s : ℕ) → is_some (slot_at slots s) ≡ true → slice_get (filled slots) (length (filled (take s slots))) ≡ slot_at slots s
filled-there [] s some = absurd (false≢true some)
filled-there (None ∷ xs) zero some = absurd (false≢true some)
filled-there (Some x ∷ xs) zero some = refl
filled-there (None ∷ xs) (suc s) some = filled-there xs s some
filled-there (Some x ∷ xs) (suc s) some = filled-there xs s some

pub persons-there : (slots : List (Option Slot)) (s : ℕ) (x : Slot) → slot_at slots s ≡ Some x → slice_get (persons (filled slots)) (length (filled (take s slots))) ≡ Some x.person
persons-there slots s x is =
    slice_get-map (λ y. y.person) (filled slots) (length (filled (take s slots))) ∙ ap (option_map (λ y. y.person)) (filled-there slots s (ap is_some is) ∙ is)

pub filled-before_more : (slots : List (Option Slot)) (a b : ℕ) → a ≤ b → length (filled (take a slots)) ≤ length (filled (take b slots))
filled-before_more slots zero b low = omega arith
filled-before_more [] (suc a) b low = omega arith
filled-before_more (x ∷ xs) (suc a) zero low = absurd (omega (arith, low))
filled-before_more (None ∷ xs) (suc a) (suc b) low = filled-before_more xs a b (omega (arith, low))
filled-before_more (Some x ∷ xs) (suc a) (suc b) low = omega (arith, filled-before_more xs a b (omega (arith, low)))

-- members that stand between two slots are as the slots between
no_ready : (slots : List (Option Slot)) (m a b : ℕ) → ((s : ℕ) → a ≤ s → s < b → is_ready m (slot_at slots s) ≡ false)
    → (k : ℕ) → length (filled (take a slots)) ≤ k → k < length (filled (take b slots)) → is_ready m (slice_get (filled slots) k) ≡ false
no_ready slots m a zero none k low high = absurd (omega (arith, high))
no_ready [] m a (suc b) none k low high = absurd (omega (arith, high))
no_ready (None ∷ xs) m zero (suc b) none k low high = no_ready xs m zero b (λ s from to. none (suc s) (omega arith) (omega (arith, to))) k (omega arith) high
no_ready (Some x ∷ xs) m zero (suc b) none zero low high = none 0 (omega arith) (omega arith)
no_ready (Some x ∷ xs) m zero (suc b) none (suc k) low high =
    no_ready xs m zero b (λ s from to. none (suc s) (omega arith) (omega (arith, to))) k (omega arith) (omega (arith, high))
no_ready (None ∷ xs) m (suc a) (suc b) none k low high = no_ready xs m a b (λ s from to. none (suc s) (omega (arith, from)) (omega (arith, to))) k low high
no_ready (Some x ∷ xs) m (suc a) (suc b) none zero low high = absurd (omega (arith, low))
no_ready (Some x ∷ xs) m (suc a) (suc b) none (suc k) low high =
    no_ready xs m a b (λ s from to. none (suc s) (omega (arith, from)) (omega (arith, to))) k (omega (arith, low)) (omega (arith, high))

ready_some : (x : Option Slot) (m : ℕ) → is_ready m x ≡ true → is_some x ≡ true
ready_some None m is = absurd (false≢true is)
ready_some (Some x) m is = refl

-- ---- what a search for a position finds

pub position-person : (slots : List (Option Slot)) (position at : ℕ) (x : Slot) → IsFilledAs slots position at → slot_at slots at ≡ Some x → at_position (persons (filled slots)) position ≡ Some x.person
position-person slots position at x found is =
    ap (at_position (persons (filled slots))) (sym found.before) ∙ at_position-next (persons (filled slots)) (length (filled (take at slots))) ∙ persons-there slots at x is

pub ready-none : (slots : List (Option Slot)) (position m a : ℕ) → 1 ≤ position → IsFilledAs slots position a → FindsReady slots a m None → FindsReadyPosition (filled slots) position m None
ready-none slots position m a some found none k from =
    ap (is_ready m) (at_position-from (filled slots) k (omega (arith, some, from))) ∙ elim (cases_lt (k - 1) (length (filled slots))) [
      | inl within ↦
          let all = take_all (length slots) slots (omega arith) in
          no_ready slots m a (length slots) (λ s low high. none s low) (k - 1) (omega (arith, from, found.before)) (rw all within)
      | inr beyond ↦ ap (is_ready m) (slice_get_past (filled slots) (k - 1) beyond)
    ]

pub ready-found : (slots : List (Option Slot)) (position m a b : ℕ) → 1 ≤ position → IsFilledAs slots position a → IsFirstReady slots a m b
    → IsFirstReadyPosition (filled slots) position m (length (filled (take b slots)) + 1)
ready-found slots position m a b some found ready = record {
  behind = omega (arith, found.before, filled-before_more slots a b ready.behind);
  ready =
      ap (is_ready m) (at_position-next (filled slots) (length (filled (take b slots))) ∙ filled-there slots b (ready_some (slot_at slots b) m ready.ready)) ∙ ready.ready;
  first = λ k from to.
      ap (is_ready m) (at_position-from (filled slots) k (omega (arith, some, from)))
      ∙ no_ready slots m a b ready.first (k - 1) (omega (arith, from, found.before)) (omega (arith, to, from, some));
}
