-- What is added up over a list of views or notes, where one of them changes.
use Rattle.std.proofs.Common.{◌≡◌, ◌≢◌, ℕ, zero, suc, ◌+◌, ◌*◌, ◌≤◌, List, [], ◌∷◌, ◌++◌, set, refl, sym, ap, arith, mul-add}
use mathlib.Core.Option.{some, some-injective, some-ne-none}
use lib.ListN.{get_elem?}
use Rattle.turn_gate.specs.Notes.{total}

module _ {A : Type 0} (f : A → ℕ) where
  pub total-set : (l : List A) (i : ℕ) (a b : A) → get_elem? l i ≡ some a → total f (set l i b) + f a ≡ total f l + f b
  total-set [] i a b at = absurd (some-ne-none a (sym at))
  total-set (x ∷ xs) zero a b at = let same = ap f (some-injective x a at) in omega arith
  total-set (x ∷ xs) (suc i) a b at = let rest = total-set xs i a b at in omega arith

  pub total-append : (l m : List A) → total f (l ++ m) ≡ total f l + total f m
  total-append [] m = omega arith
  total-append (x ∷ xs) m = let rest = total-append xs m in omega arith

  pub total-push : (l : List A) (a : A) → total f (l ++ a ∷ []) ≡ total f l + f a
  total-push l a = omega (arith, total-append l (a ∷ []))

  pub total-one : (l : List A) (i : ℕ) (a : A) → get_elem? l i ≡ some a → f a ≤ total f l
  total-one [] i a at = absurd (some-ne-none a (sym at))
  total-one (x ∷ xs) zero a at = let same = ap f (some-injective x a at) in omega arith
  total-one (x ∷ xs) (suc i) a at = let rest = total-one xs i a at in omega arith

  pub total-two : (l : List A) (i j : ℕ) (a b : A) → i ≢ j → get_elem? l i ≡ some a → get_elem? l j ≡ some b → f a + f b ≤ total f l
  total-two [] i j a b apart at there = absurd (some-ne-none a (sym at))
  total-two (x ∷ xs) zero zero a b apart at there = absurd (apart refl)
  total-two (x ∷ xs) zero (suc j) a b apart at there = let same = ap f (some-injective x a at) in let rest = total-one xs j b there in omega arith
  total-two (x ∷ xs) (suc i) zero a b apart at there = let same = ap f (some-injective x b there) in let rest = total-one xs i a at in omega arith
  total-two (x ∷ xs) (suc i) (suc j) a b apart at there = let rest = total-two xs i j a b (λ e. apart (ap suc e)) at there in omega arith

-- where each is at most so many times another number
pub total-most : {A : Type 0} (f g : A → ℕ) (q : ℕ) (l : List A) → ((i : ℕ) (a : A) → get_elem? l i ≡ some a → f a ≤ q * g a) → total f l ≤ q * total g l
total-most f g q [] each = omega arith
total-most f g q (x ∷ xs) each =
    let here = each 0 x refl in
    let rest = total-most f g q xs (λ i a at. each (suc i) a at) in
    let parts = mul-add q (g x) (total g xs) in
    omega arith
