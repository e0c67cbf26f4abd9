-- Indexes among others, in any list, and of persons among all.
use Rattle.std.proofs.Common.{◌≡◌, ◌<◌, ◌≤◌, ◌+◌, ℕ, Bool, true, false, not, cond, nat_eq, nat_lt, List, [], ◌∷◌, ◌++◌, length, get_or, length-append, None, Some, is_some, unwrap_or, refl, sym, ap, subst, ◌∙◌, arith}
use Rattle.std.proofs.lemmas.Bool.{false≢true}
use Rattle.std.proofs.lemmas.Bool.Decides.{nat_tests}
use Rattle.std.proofs.lemmas.List.Folds.{position_or_len_push}
use Rattle.std.proofs.lemmas.List.Quantifiers.{position-Some}
use Rattle.std.proofs.lemmas.List.Sums.{prefix_len-le-length}
use Rattle.std.specs.Prelude.{position}
use Rattle.std.specs.Bool.{Decides}
use Rattle.std.specs.Option.{option_or}
use Rattle.std.specs.List.{position_or_len}
use Rattle.desk_register.specs.Among.{index_among}
use Rattle.desk_register.proofs.PersonLemmas.{same, same_number}

-- what has an index keeps it when one more comes, which gets the last where it passes first
by-number : (at n : ℕ) (mine : Bool) → at ≤ n
    → cond (nat_lt (cond (nat_eq at n) (n + cond mine 0 1) at) (n + 1)) (Some (cond (nat_eq at n) (n + cond mine 0 1) at)) None
    ≡ option_or (cond (nat_lt at n) (Some at) None) (cond mine (Some n) None)
by-number at n mine most = go mine (nat_eq at n) refl
  where
    go : (mine here : Bool) → nat_eq at n ≡ here → cond (nat_lt (cond here (n + cond mine 0 1) at) (n + 1)) (Some (cond here (n + cond mine 0 1) at)) None
        ≡ option_or (cond (nat_lt at n) (Some at) None) (cond mine (Some n) None)
    go true true here =
        let zero : n + 0 ≡ n = omega arith in
        let within : nat_lt n (n + 1) ≡ true = grind (arith, nat_tests) in
        let low : nat_lt at n ≡ false = grind (arith, nat_tests, here) in
        rw (zero, within, low) refl
    go false true here =
        let within : nat_lt (n + 1) (n + 1) ≡ false = grind (arith, nat_tests) in
        let low : nat_lt at n ≡ false = grind (arith, nat_tests, here) in
        rw (within, low) refl
    go mine false here =
        let within : nat_lt at (n + 1) ≡ true = grind (arith, nat_tests, most) in
        let low : nat_lt at n ≡ true = grind (arith, nat_tests, here, most) in
        rw (within, low) refl

pub position-push : {X : Type 0} (test : X → Bool) (xs : List X) (x : X) → position test (xs ++ x ∷ []) ≡ option_or (position test xs) (cond (test x) (Some (length xs)) None)
position-push test xs x = rw (position_or_len_push test xs x, length-append xs (x ∷ []))
    (by-number (position_or_len test xs) (length xs) (test x) (prefix_len-le-length (λ y. not (test y)) xs))

pub position-lt : {X : Type 0} (test : X → Bool) (xs : List X) (i : ℕ) (d : X) → position test xs ≡ Some i → i < length xs
position-lt test xs i d is = (position-Some test xs i d is).0

-- of two that have indexes these are one just where they are equal
module _ {X : Type 0} (eq : X → X → Bool) (decides : (a b : X) → Decides (eq a b) (a ≡ b)) (xs : List X) (d : X) where
  pub at-index : (p : X) (i : ℕ) → position (eq p) xs ≡ Some i → p ≡ get_or xs i d
  at-index p i is = (decides p (get_or xs i d)).0 (position-Some (eq p) xs i d is).1

  pub indexes-differ : (p q : X) (i j : ℕ) → position (eq p) xs ≡ Some i → position (eq q) xs ≡ Some j → nat_eq i j ≡ eq p q
  indexes-differ p q i j p_is q_is = go (nat_eq i j) (eq p q) refl refl
    where
      go : (a b : Bool) → nat_eq i j ≡ a → eq p q ≡ b → a ≡ b
      go true true x y = refl
      go false false x y = refl
      go true false x y = sym ((decides p q).1 (at-index p i p_is ∙ ap (λ k. get_or xs k d) (same_number i j x) ∙ sym (at-index q j q_is))) ∙ y
      go false true x y = sym x ∙ ap (nat_eq i) (ap (λ o. unwrap_or o 0) (sym q_is ∙ ap (λ r. position (eq r) xs) (sym ((decides p q).0 y)) ∙ p_is)) ∙ same i

  -- who has none is not one that has
  pub indexed-differ : (p q : X) (i : ℕ) → position (eq p) xs ≡ Some i → position (eq q) xs ≡ None → eq p q ≡ false
  indexed-differ p q i p_is none = go (eq p q) refl
    where
      go : (b : Bool) → eq p q ≡ b → b ≡ false
      go true y = absurd (false≢true (ap is_some (sym none ∙ ap (λ r. position (eq r) xs) (sym ((decides p q).0 y)) ∙ p_is)))
      go false y = refl

pub number-decides : (a b : ℕ) → Decides (nat_eq a b) (a ≡ b)
number-decides a b = (same_number a b, λ is. subst (λ x. nat_eq a x ≡ true) is (same a))

-- the same of persons
pub index-lt : (numbers : List ℕ) (p i : ℕ) → index_among numbers p ≡ Some i → i < length numbers
index-lt numbers p i = position-lt (nat_eq p) numbers i 0

pub index-is : (numbers : List ℕ) (p i : ℕ) → index_among numbers p ≡ Some i → p ≡ get_or numbers i 0
index-is numbers = at-index nat_eq number-decides numbers 0

pub indexes-apart : (numbers : List ℕ) (p q i j : ℕ) → index_among numbers p ≡ Some i → index_among numbers q ≡ Some j → nat_eq i j ≡ nat_eq p q
indexes-apart numbers = indexes-differ nat_eq number-decides numbers 0

-- who has an index keeps it when one more is enrolled, and who has none gets the last, if it is them
pub index-grown : (numbers : List ℕ) (p q : ℕ) → index_among (numbers ++ p ∷ []) q ≡ option_or (index_among numbers q) (cond (nat_eq q p) (Some (length numbers)) None)
index-grown numbers p q = position-push (nat_eq q) numbers p
