-- The filled slots of a tree as members: what a write of one slot makes of them.
use Rattle.std.proofs.Common.{◌≡◌, ◌≢◌, ℕ, zero, suc, ◌+◌, ◌<◌, true, false, not, cond, nat_eq, Option, None, Some, List, [], ◌∷◌, length, set, is_some, refl, sym, ap, ◌∙◌, arith}
use Rattle.std.specs.List.{list_any}
use Rattle.std.proofs.lemmas.Bool.{false≢true, eq-eqb, ne_eqb, or_from, or_right, or_left, and_parts, not-true}
use Rattle.slot_tree.specs.declared.slot.Slot.{Slot}
use Rattle.slot_tree.specs.Slots.{slot_at, with_ready, filled}
use Rattle.pool_board.specs.Members.{persons, is_listed, holds, ready_of, without, are_distinct}
use Rattle.pool_board.proofs.MemberLemmas.{others_differ, without-absent}

pub is_listed-none : (p : ℕ) (slots : List (Option Slot)) → ((s : ℕ) → s < length slots → holds p (slot_at slots s) ≡ false) → is_listed p (filled slots) ≡ false
is_listed-none p [] none = refl
is_listed-none p (None ∷ xs) none = is_listed-none p xs (λ s low. none (suc s) (omega (arith, low)))
is_listed-none p (Some x ∷ xs) none =
    or_from (nat_eq p x.person) (is_listed p (filled xs)) (none 0 (omega arith)) (is_listed-none p xs (λ s low. none (suc s) (omega (arith, low))))

some_other : {A : Type 0} (x : A) → None ≡ Some x → ⊥
some_other x is = cc

same_person : (x y : Slot) → Some x ≡ Some y → x.person ≡ y.person
same_person x y is = let e : x ≡ y = cc in ap (λ z. z.person) e

pub is_listed-there : (slots : List (Option Slot)) (i : ℕ) (x : Slot) → slot_at slots i ≡ Some x → is_listed x.person (filled slots) ≡ true
is_listed-there [] i x is = absurd (some_other x is)
is_listed-there (None ∷ xs) zero x is = absurd (some_other x is)
is_listed-there (Some y ∷ xs) zero x is = or_left (nat_eq x.person y.person) _ (eq-eqb x.person y.person (sym (same_person y x is)))
is_listed-there (None ∷ xs) (suc i) x is = is_listed-there xs i x is
is_listed-there (Some y ∷ xs) (suc i) x is = or_right (nat_eq x.person y.person) _ (is_listed-there xs i x is)

-- ---- a slot is emptied

pub persons-cleared : (slots : List (Option Slot)) (i : ℕ) (x : Slot) → slot_at slots i ≡ Some x → are_distinct (persons (filled slots)) ≡ true
    → persons (filled (set slots i None)) ≡ without x.person (persons (filled slots))
persons-cleared [] i x is all = absurd (some_other x is)
persons-cleared (None ∷ xs) zero x is all = absurd (some_other x is)
persons-cleared (Some y ∷ xs) zero x is all =
    let each = and_parts (not (list_any (nat_eq y.person) (persons (filled xs)))) (are_distinct (persons (filled xs))) all in
    let same : x.person ≡ y.person = sym (same_person y x is) in
    let out : list_any (nat_eq x.person) (persons (filled xs)) ≡ false = ap (λ p. list_any (nat_eq p) (persons (filled xs))) same ∙ not-true _ each.0 in
    rw (eq-eqb x.person y.person same) (sym (without-absent x.person (persons (filled xs)) out))
persons-cleared (None ∷ xs) (suc i) x is all = persons-cleared xs i x is all
persons-cleared (Some y ∷ xs) (suc i) x is all =
    let each = and_parts (not (list_any (nat_eq y.person) (persons (filled xs)))) (are_distinct (persons (filled xs))) all in
    rw (others_differ x.person y.person (persons (filled xs)) (not-true _ each.0) (is_listed-there xs i x is)) (ap (λ ps. y.person ∷ ps) (persons-cleared xs i x is each.1))

pub ready_of-cleared : (slots : List (Option Slot)) (i : ℕ) (x : Slot) (q : ℕ) → slot_at slots i ≡ Some x → q ≢ x.person → ready_of q (filled (set slots i None)) ≡ ready_of q (filled slots)
ready_of-cleared [] i x q is other = refl
ready_of-cleared (None ∷ xs) zero x q is other = refl
ready_of-cleared (Some y ∷ xs) zero x q is other = rw (ne_eqb q y.person (λ same. other (same ∙ same_person y x is))) refl
ready_of-cleared (None ∷ xs) (suc i) x q is other = ready_of-cleared xs i x q is other
ready_of-cleared (Some y ∷ xs) (suc i) x q is other = ap (λ o. cond (nat_eq q y.person) (Some y.ready) o) (ready_of-cleared xs i x q is other)

pub length-cleared : (slots : List (Option Slot)) (i : ℕ) (x : Slot) → slot_at slots i ≡ Some x → length (filled (set slots i None)) + 1 ≡ length (filled slots)
length-cleared [] i x is = absurd (some_other x is)
length-cleared (None ∷ xs) zero x is = absurd (some_other x is)
length-cleared (Some y ∷ xs) zero x is = omega arith
length-cleared (None ∷ xs) (suc i) x is = length-cleared xs i x is
length-cleared (Some y ∷ xs) (suc i) x is = omega (arith, length-cleared xs i x is)

pub fewer-cleared : (slots : List (Option Slot)) (i : ℕ) → is_some (slot_at slots i) ≡ true → length (filled (set slots i None)) + 1 ≡ length (filled slots)
fewer-cleared slots i full = go (slot_at slots i) refl full
  where
    go : (held : Option Slot) → slot_at slots i ≡ held → is_some held ≡ true → length (filled (set slots i None)) + 1 ≡ length (filled slots)
    go None is full = absurd (false≢true full)
    go (Some x) is full = length-cleared slots i x is

-- ---- a ready minute is changed

pub persons-ready : (slots : List (Option Slot)) (i m : ℕ) → persons (filled (set slots i (with_ready m (slot_at slots i)))) ≡ persons (filled slots)
persons-ready [] i m = refl
persons-ready (None ∷ xs) zero m = refl
persons-ready (Some y ∷ xs) zero m = refl
persons-ready (None ∷ xs) (suc i) m = persons-ready xs i m
persons-ready (Some y ∷ xs) (suc i) m = ap (λ ps. y.person ∷ ps) (persons-ready xs i m)

pub ready_of-this : (slots : List (Option Slot)) (i m : ℕ) (x : Slot) → slot_at slots i ≡ Some x → are_distinct (persons (filled slots)) ≡ true
    → ready_of x.person (filled (set slots i (with_ready m (slot_at slots i)))) ≡ Some m
ready_of-this [] i m x is all = absurd (some_other x is)
ready_of-this (None ∷ xs) zero m x is all = absurd (some_other x is)
ready_of-this (Some y ∷ xs) zero m x is all = rw (eq-eqb x.person y.person (sym (same_person y x is))) refl
ready_of-this (None ∷ xs) (suc i) m x is all = ready_of-this xs i m x is all
ready_of-this (Some y ∷ xs) (suc i) m x is all =
    let each = and_parts (not (list_any (nat_eq y.person) (persons (filled xs)))) (are_distinct (persons (filled xs))) all in
    rw (others_differ x.person y.person (persons (filled xs)) (not-true _ each.0) (is_listed-there xs i x is)) (ready_of-this xs i m x is each.1)

pub ready_of-others : (slots : List (Option Slot)) (i m : ℕ) (x : Slot) (q : ℕ) → slot_at slots i ≡ Some x → q ≢ x.person
    → ready_of q (filled (set slots i (with_ready m (slot_at slots i)))) ≡ ready_of q (filled slots)
ready_of-others [] i m x q is other = refl
ready_of-others (None ∷ xs) zero m x q is other = refl
ready_of-others (Some y ∷ xs) zero m x q is other = rw (ne_eqb q y.person (λ same. other (same ∙ same_person y x is))) refl
ready_of-others (None ∷ xs) (suc i) m x q is other = ready_of-others xs i m x q is other
ready_of-others (Some y ∷ xs) (suc i) m x q is other = ap (λ o. cond (nat_eq q y.person) (Some y.ready) o) (ready_of-others xs i m x q is other)

pub ready_of-there : (slots : List (Option Slot)) (i : ℕ) (x : Slot) → slot_at slots i ≡ Some x → are_distinct (persons (filled slots)) ≡ true → ready_of x.person (filled slots) ≡ Some x.ready
ready_of-there [] i x is all = absurd (some_other x is)
ready_of-there (None ∷ xs) zero x is all = absurd (some_other x is)
ready_of-there (Some y ∷ xs) zero x is all =
    rw (eq-eqb x.person y.person (sym (same_person y x is))) (let e : y ≡ x = cc in ap (λ z. Some z.ready) e)
ready_of-there (None ∷ xs) (suc i) x is all = ready_of-there xs i x is all
ready_of-there (Some y ∷ xs) (suc i) x is all =
    let each = and_parts (not (list_any (nat_eq y.person) (persons (filled xs)))) (are_distinct (persons (filled xs))) all in
    rw (others_differ x.person y.person (persons (filled xs)) (not-true _ each.0) (is_listed-there xs i x is)) (ready_of-there xs i x is each.1)
