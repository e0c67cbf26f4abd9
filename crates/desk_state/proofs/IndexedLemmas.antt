-- Indexes of boards and persons among all.
use Rattle.std.proofs.Common.{◌≡◌, ◌<◌, ◌≤◌, ℕ, zero, suc, Bool, true, false, cond, nat_eq, List, [], ◌∷◌, ◌++◌, length, get_or, Option, None, Some, is_some, refl, sym, ap, ◌∙◌, ◌⊎◌, inl, inr, arith, append-nil, length-append, subst}
use Rattle.std.proofs.lemmas.Bool.{false≢true}
use Rattle.std.proofs.lemmas.List.Quantifiers.{position-Some}
use Rattle.std.proofs.lemmas.Option.{slice_get-get_or, same_Some}
use Rattle.std.proofs.lemmas.Slice.Eq.{bytes_eq-Decides}
use Rattle.std.specs.List.{slice_get, cons_option}
use Rattle.std.specs.Option.{option_or}
use Rattle.std.specs.Str.{bytes_eq}
use Rattle.desk_register.specs.Among.{index_among, board_index}
use Rattle.desk_register.proofs.PersonLemmas.{same, same_number}
use Rattle.desk_register.proofs.IndexAmongLemmas.{index-grown}

pub board-at : (codes : List (List ℕ)) (b : List ℕ) (j : ℕ) → board_index codes b ≡ Some j → slice_get codes j ≡ Some b
board-at codes b j is =
    let found = position-Some (bytes_eq b) codes j [] is in
    slice_get-get_or codes j [] found.0 ∙ ap Some (sym ((bytes_eq-Decides b (get_or codes j [])).0 found.1))

-- no code stands at two indexes
abbrev pub AreApart : List (List ℕ) → Type 0
AreApart codes = (i j : ℕ) (b : List ℕ) → slice_get codes i ≡ Some b → slice_get codes j ≡ Some b → i ≡ j

-- two indexes are one just where the codes are
pub boards-apart : (codes : List (List ℕ)) (b c : List ℕ) (i j : ℕ) → AreApart codes → slice_get codes i ≡ Some b → slice_get codes j ≡ Some c → nat_eq i j ≡ bytes_eq b c
boards-apart codes b c i j apart b_at c_at = go (nat_eq i j) (bytes_eq b c) refl refl
  where
    go : (x y : Bool) → nat_eq i j ≡ x → bytes_eq b c ≡ y → x ≡ y
    go true true x y = refl
    go false false x y = refl
    go true false x y = absurd (false≢true (sym y ∙ (bytes_eq-Decides b c).1 (same_Some b c (sym b_at ∙ ap (slice_get codes) (same_number i j x) ∙ c_at))))
    go false true x y =
        let one : i ≡ j = apart i j b b_at (c_at ∙ ap Some (sym ((bytes_eq-Decides b c).0 y))) in
        absurd (false≢true (sym x ∙ ap (nat_eq i) (sym one) ∙ same i))

-- ---- one more

get-pushed : {X : Type 0} (xs : List X) (x y : X) (j : ℕ) → slice_get (xs ++ x ∷ []) j ≡ Some y → (slice_get xs j ≡ Some y) ⊎ ((j ≡ length xs) × (x ≡ y))
get-pushed [] x y zero at = inr (refl, same_Some x y at)
get-pushed [] x y (suc j) at = absurd (false≢true (ap is_some at))
get-pushed (z ∷ xs) x y zero at = inl at
get-pushed (z ∷ xs) x y (suc j) at = elim (get-pushed xs x y j at) [
  | inl old ↦ inl old
  | inr new ↦ inr (ap suc new.0, new.1)
]

-- what stands at an index where there may be one more
pub get-grown : {X : Type 0} (xs : List X) (more : Option X) (y : X) (j : ℕ) → slice_get (xs ++ cons_option more []) j ≡ Some y
    → (slice_get xs j ≡ Some y) ⊎ ((j ≡ length xs) × (more ≡ Some y))
get-grown xs None y j at = inl (ap (λ ys. slice_get ys j) (sym (append-nil xs)) ∙ at)
get-grown xs (Some x) y j at = elim (get-pushed xs x y j at) [
  | inl old ↦ inl old
  | inr new ↦ inr (new.0, ap Some new.1)
]

-- and whose index it is
pub index-grew : (numbers : List ℕ) (more : Option ℕ) (p i : ℕ) → index_among (numbers ++ cons_option more []) p ≡ Some i
    → (index_among numbers p ≡ Some i) ⊎ ((i ≡ length numbers) × (more ≡ Some p))
index-grew numbers None p i at = inl (ap (λ ns. index_among ns p) (sym (append-nil numbers)) ∙ at)
index-grew numbers (Some q) p i at = go (index_among numbers p) (nat_eq p q) refl refl (sym (index-grown numbers q p) ∙ at)
  where
    go : (had : Option ℕ) (them : Bool) → index_among numbers p ≡ had → nat_eq p q ≡ them → option_or had (cond them (Some (length numbers)) None) ≡ Some i
        → (index_among numbers p ≡ Some i) ⊎ ((i ≡ length numbers) × (Some q ≡ Some p))
    go (Some k) them was is at = inl (was ∙ at)
    go None true was is at = inr (sym (same_Some (length numbers) i at), ap Some (sym (same_number p q is)))
    go None false was is at = absurd (false≢true (ap is_some at))

pub length-grown : {X : Type 0} (xs : List X) (more : Option X) (n : ℕ) → length xs ≤ n → ((x : X) → more ≡ Some x → length xs < n) → length (xs ++ cons_option more []) ≤ n
length-grown xs None n most room = subst (λ ys. length ys ≤ n) (sym (append-nil xs)) most
length-grown xs (Some x) n most room = let low : length xs < n = room x refl in omega (arith, length-append xs (x ∷ []))

pub length-grows : {X : Type 0} (xs : List X) (more : Option X) (i : ℕ) → length (xs ++ cons_option more []) ≤ i → length xs ≤ i
length-grows xs more i past = omega (arith, length-append xs (cons_option more []))
