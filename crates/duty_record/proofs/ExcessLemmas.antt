-- What is listed of all numbers is what is listed of those that something is kept under.
use Rattle.std.proofs.Common.{◌≡◌, ℕ, zero, suc, ◌+◌, ◌≤◌, ◌<◌, false, nat_eq, nat_cmp, Less, Option, None, Some, is_some, map, filter, List, [], ◌∷◌, ◌++◌, ⊎_elim, refl, sym, ap, ◌∙◌, subst, arith}
use Rattle.desk_base.specs.declared.limits.TheConstants.{NUMBER_LIMIT}
use Rattle.std.specs.List.{All, IsDistinct, flat_map, range_with_len, list_any}
use Rattle.std.specs.Prelude.{IsSome}
use Rattle.indexmap.specs.IndexMap.{get, keys, IsUnique}
use Rattle.std.specs.List.Sorted.{IsPermutation, IsSorted, IsStrictlyIncreasing, IsStrictlySortedBy}
use Rattle.std.proofs.lemmas.Bool.{cases_eq, false≢true}
use Rattle.std.proofs.lemmas.Bool.Decides.{nat_tests}
use Rattle.std.proofs.lemmas.List.Elements.{All-nil, All-cons, All-head, All-tail, All-weaker}
use Rattle.std.proofs.lemmas.Cmp.{nat_eq_equiv}
use Rattle.std.proofs.lemmas.List.Sorted.{list_any-IsPermutation}
use Rattle.std.proofs.lemmas.Map.Keys.{IsDistinct-IsPermutation, apart_from_distinct, sorted_from_strictly_increasing, sorted_tail}
use Rattle.std.proofs.lemmas.Map.Made.{is_some-lookup}
use Rattle.std.proofs.lemmas.Map.Views.{All-after_first, All-from_any}
use Rattle.desk_model.specs.histories.History.{History}
use Rattle.duty_record.specs.declared.person_tours.PersonTours.{PersonTours}
use Rattle.duty_record.specs.declared.tour_book.TourBook.{TourBook}
use Rattle.duty_record.specs.Deeds.{Deed, deeds}
use Rattle.duty_record.specs.EndedTours.{ended_tours}
use Rattle.duty_record.specs.Tours.{is_relief, record_of, tours, is_excess, excess_of, excess_list}
use Rattle.duty_record.specs.Kept.{IsUnder, AreTours, AreRising}
use Rattle.duty_record.proofs.TourLemmas.{ended_tours-none}

pub record LiesIn (first many n : ℕ) : Type 0 where
  pub from : first ≤ n
  pub to : n < first + many

above : (k q : ℕ) → nat_cmp k q ≡ Less → k < q
above k q is = grind (arith, nat_tests, is)

-- a number below all of a list isn't in it
absent : (n : ℕ) (ks : List ℕ) → All (λ k. n < k) ks → list_any (nat_eq n) ks ≡ false
absent n [] all = refl
absent n (k ∷ ks) all =
    let low = All-head (λ (q : ℕ). n < q) k ks all in
    let apart : nat_eq n k ≡ false = grind (arith, nat_tests, low) in
    rw (apart, absent n ks (All-tail (λ (q : ℕ). n < q) k ks all)) refl

other : (n k : ℕ) (ks : List ℕ) → k < n → list_any (nat_eq n) ks ≡ false → list_any (nat_eq n) (k ∷ ks) ≡ false
other n k ks low is = let apart : nat_eq n k ≡ false = grind (arith, nat_tests, low) in rw (apart, is) refl

-- those behind the first number lie among one less
later : (first many : ℕ) (ks : List ℕ) → All (LiesIn first (suc many)) ks → All (λ k. first < k) ks → All (LiesIn (first + 1) many) ks
later first many [] lies all = All-nil (LiesIn (first + 1) many)
later first many (k ∷ ks) lies all =
    let is = All-head (LiesIn first (suc many)) k ks lies in
    let low = All-head (λ (q : ℕ). first < q) k ks all in
    All-cons (LiesIn (first + 1) many) k ks (record { from = omega (arith, low); to = omega (arith, is.to) })
    (later first many ks (All-tail (LiesIn first (suc many)) k ks lies) (All-tail (λ (q : ℕ). first < q) k ks all))

pub listed-sorted : {X : Type 0} (f : ℕ → List X) (first many : ℕ) (ks : List ℕ) → IsStrictlySortedBy nat_cmp ks → All (LiesIn first many) ks
    → ((n : ℕ) → first ≤ n → list_any (nat_eq n) ks ≡ false → f n ≡ []) → flat_map f (range_with_len first many) ≡ flat_map f ks
listed-sorted f first zero [] sorted lies none = refl
listed-sorted f first zero (k ∷ ks) sorted lies none = let is = All-head (LiesIn first 0) k ks lies in absurd (omega (arith, is.from, is.to))
listed-sorted f first (suc many) [] sorted lies none =
    ap (λ xs. xs ++ flat_map f (range_with_len (first + 1) many)) (none first (omega arith) refl)
    ∙ listed-sorted f (first + 1) many [] sorted (All-nil (LiesIn (first + 1) many)) (λ n from is. none n (omega (arith, from)) is)
listed-sorted f first (suc many) (k ∷ ks) sorted lies none =
    let is = All-head (LiesIn first (suc many)) k ks lies in
    let rest = All-tail (LiesIn first (suc many)) k ks lies in
    let behind : All (λ q. k < q) ks = All-weaker (λ (q : ℕ). nat_cmp k q ≡ Less) (λ (q : ℕ). k < q) (above k) ks (All-after_first nat_cmp k ks sorted) in
    ⊎_elim
    (λ here.
    ap (λ n. f n ++ flat_map f (range_with_len (first + 1) many)) here
    ∙ ap (λ xs. f k ++ xs)
    (listed-sorted f (first + 1) many ks (sorted_tail nat_cmp k ks sorted) (later first many ks rest (subst (λ n. All (λ (q : ℕ). n < q) ks) (sym here) behind))
    (λ n from gone. none n (omega (arith, from)) (other n k ks (omega (arith, from, here)) gone))))
    (λ apart.
    let low : first < k = omega (arith, is.from, apart) in
    let all : All (λ q. first < q) (k ∷ ks) = All-cons (λ (q : ℕ). first < q) k ks low (All-weaker (λ (q : ℕ). k < q) (λ (q : ℕ). first < q) (λ q le. omega (arith, le, low)) ks behind) in
    ap (λ xs. xs ++ flat_map f (range_with_len (first + 1) many)) (none first (omega arith) (absent first (k ∷ ks) all))
    ∙ listed-sorted f (first + 1) many (k ∷ ks) sorted (later first many (k ∷ ks) lies all) (λ n from gone. none n (omega (arith, from)) gone))
    (cases_eq first k)

-- ---- the list of all persons

nothing : (h : History) (p : ℕ) → deeds h p ≡ [] → excess_of h p ≡ []
unfolding tours
nothing h p none = ap (λ ds. filter is_excess (map (λ t. record_of p (is_relief h t.vacancy) t) ds)) (ap ended_tours none ∙ ended_tours-none)

unkept : (book : TourBook) (h : History) (p : ℕ) (o : Option PersonTours) → is_some o ≡ false → IsUnder o (deeds h p) → excess_of h p ≡ []
unkept book h p None none is = nothing h p is
unkept book h p (Some k) none is = absurd (false≢true (sym none))

numbered : (book : TourBook) (did : ℕ → List Deed) → AreTours book did → (p : ℕ) → (o : Option PersonTours) → get nat_eq book.people p ≡ o → IsSome o → LiesIn 1 NUMBER_LIMIT p
numbered book did are p None at some = absurd (false≢true some)
numbered book did are p (Some k) at some = let is = are.numbered p k at in record { from = omega (arith, is.0); to = omega (arith, is.1) }

pub excess-listed : (book : TourBook) (h : History) (all : List ℕ) → AreTours book (deeds h) → AreRising book all → excess_list h ≡ flat_map (excess_of h) all
unfolding excess_list
excess-listed book h all are rising =
    listed-sorted (excess_of h) 1 NUMBER_LIMIT all rising.rising
    (All-from_any nat_eq_equiv (LiesIn 1 NUMBER_LIMIT) all (λ p is. numbered book (deeds h) are p (get nat_eq book.people p) refl (rising.each p ∙ is)))
    (λ n from gone. unkept book h n (get nat_eq book.people n) (rising.each n ∙ gone) (are.each n))

-- ---- those of whom something is kept

rises : (all : List ℕ) → IsSorted nat_cmp all → IsDistinct nat_eq all → IsStrictlyIncreasing all
rises all sorted apart k lt =
    let le = sorted k 0 (omega arith) lt in
    let ne = apart_from_distinct nat_eq all k (k + 1) 0 apart (omega arith) lt in
    grind (arith, nat_tests, le, ne)

pub are-rising : (book : TourBook) (listed all : List ℕ) → IsUnique nat_eq book.people → listed ≡ keys book.people → IsPermutation listed all → IsSorted nat_cmp all → AreRising book all
are-rising book listed all unique are same sorted = record {
  rising = sorted_from_strictly_increasing all (rises all sorted (IsDistinct-IsPermutation nat_eq nat_eq_equiv.symm listed all same (subst (IsDistinct nat_eq) (sym are) unique)));
  each = λ p. is_some-lookup (nat_eq p) book.people.entries ∙ ap (list_any (nat_eq p)) (sym are) ∙ list_any-IsPermutation (nat_eq p) listed all same;
}
