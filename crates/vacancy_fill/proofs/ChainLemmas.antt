-- The first of a chain whom nothing bars, slot by slot and board by board.
use Rattle.std.proofs.Common.{◌≡◌, ℕ, zero, suc, ◌+◌, ◌*◌, ◌<◌, ◌≤◌, Bool, true, false, cond, nat_le, inl, inr, Option, None, Some, is_some, is_none, List, [], ◌∷◌, ◌++◌, length, take, drop, get_or, filter, refl, sym, ap, ◌∙◌, arith}
use Rattle.std.specs.List.{find}
use Rattle.std.proofs.lemmas.Bool.{false≢true, cases_lt, cases_eq, and_from, leb-false}
use Rattle.std.proofs.lemmas.List.{take_all, drop_more}
use Rattle.std.proofs.lemmas.Option.{slice_get_read}
use Rattle.denial_rules.specs.declared.bar.Bar.{Bar}
use Rattle.slot_tree.specs.declared.slot.Slot.{Slot}
use Rattle.slot_tree.specs.Slots.{slot_at, is_ready, filled}
use Rattle.slot_tree.specs.Search.{IsFirstReady, FindsReady}
use Rattle.pool_board.specs.Board.{BoardValue}
use Rattle.pool_board.specs.Members.{persons, are_distinct}
use Rattle.pool_board.proofs.SlotLemmas.{ready_of-there}
use Rattle.vacancy_fill.specs.Chain.{members_of, members_at, positions, chain_from, first_free, BarsUnready, is_passed_over, passed_over, most_steps}

-- who fills a slot before one has a bar
abbrev pub AreBarred : (ℕ → Option Bar) → List (Option Slot) → ℕ → Type 0
AreBarred bar slots from = (s : ℕ) (x : Slot) → s < from → slot_at slots s ≡ Some x → is_some (bar x.person) ≡ true

bar-some : (o : Option Bar) → is_some o ≡ true → is_none o ≡ false
bar-some None is = absurd (false≢true is)
bar-some (Some b) is = refl

-- ---- one board

pub first_free-there : (bar : ℕ → Option Bar) (link position : ℕ) (slots : List (Option Slot)) (at : ℕ) (x : Slot) → AreBarred bar slots at → slot_at slots at ≡ Some x
    → is_none (bar x.person) ≡ true
    → first_free bar (positions link position (persons (filled slots))) ≡ Some (record { link = link; person = x.person; position = position + length (filled (take at slots)) })
first_free-there bar link position [] at x barred is free = absurd (let e : None ≡ Some x = is in cc)
first_free-there bar link position (None ∷ xs) zero x barred is free = absurd (let e : None ≡ Some x = is in cc)
first_free-there bar link position (Some y ∷ xs) zero x barred is free =
    let e : y ≡ x = cc in
    let here : is_none (bar y.person) ≡ true = ap (λ z. is_none (bar z.person)) e ∙ free in
    let same : position ≡ position + 0 = omega arith in
    rw here (ap (λ z. Some (record { link = link; person = z.person; position = position })) e ∙ ap (λ n. Some (record { link = link; person = x.person; position = n })) same)
first_free-there bar link position (None ∷ xs) (suc at) x barred is free =
    first_free-there bar link position xs at x (λ s y low there. barred (suc s) y (omega (arith, low)) there) is free
first_free-there bar link position (Some y ∷ xs) (suc at) x barred is free =
    let here = bar-some (bar y.person) (barred 0 y (omega arith) refl) in
    let later : position + 1 + length (filled (take at xs)) ≡ position + suc (length (filled (take at xs))) = omega arith in
    rw here
    (first_free-there bar link (position + 1) xs at x (λ s z low there. barred (suc s) z (omega (arith, low)) there) is free
    ∙ ap (λ n. Some (record { link = link; person = x.person; position = n })) later)

pub first_free-none : (bar : ℕ → Option Bar) (link position : ℕ) (slots : List (Option Slot)) → AreBarred bar slots (length slots)
    → first_free bar (positions link position (persons (filled slots))) ≡ None
first_free-none bar link position [] barred = refl
first_free-none bar link position (None ∷ xs) barred = first_free-none bar link position xs (λ s x low there. barred (suc s) x (omega (arith, low)) there)
first_free-none bar link position (Some y ∷ xs) barred =
    let here = bar-some (bar y.person) (barred 0 y (omega arith) refl) in
    rw here (first_free-none bar link (position + 1) xs (λ s x low there. barred (suc s) x (omega (arith, low)) there))

-- who isn't ready has a bar
unready-barred : (bar : ℕ → Option Bar) (m : ℕ) (slots : List (Option Slot)) (s : ℕ) (x : Slot) → BarsUnready bar m (filled slots) → are_distinct (persons (filled slots)) ≡ true
    → slot_at slots s ≡ Some x → is_ready m (slot_at slots s) ≡ false → is_some (bar x.person) ≡ true
unready-barred bar m slots s x unready all is late =
    let not_ready : nat_le x.ready m ≡ false = ap (is_ready m) (sym is) ∙ late in
    unready x.person x.ready (ready_of-there slots s x is all) (leb-false x.ready m not_ready)

-- a search passes over the slots before the first that is ready
pub barred-to : (bar : ℕ → Option Bar) (m : ℕ) (slots : List (Option Slot)) (from at : ℕ) → BarsUnready bar m (filled slots) → are_distinct (persons (filled slots)) ≡ true
    → AreBarred bar slots from → IsFirstReady slots from m at → AreBarred bar slots at
barred-to bar m slots from at unready all barred found s x low is = elim (cases_lt s from) [
  | inl before ↦ barred s x before is
  | inr behind ↦ unready-barred bar m slots s x unready all is (found.first s behind low)
]

pub barred-all : (bar : ℕ → Option Bar) (m : ℕ) (slots : List (Option Slot)) (from : ℕ) → BarsUnready bar m (filled slots) → are_distinct (persons (filled slots)) ≡ true
    → AreBarred bar slots from → FindsReady slots from m None → AreBarred bar slots (length slots)
barred-all bar m slots from unready all barred none s x low is = elim (cases_lt s from) [
  | inl before ↦ barred s x before is
  | inr behind ↦ unready-barred bar m slots s x unready all is (none s behind)
]

pub barred-next : (bar : ℕ → Option Bar) (slots : List (Option Slot)) (at : ℕ) (x : Slot) → AreBarred bar slots at → slot_at slots at ≡ Some x → is_some (bar x.person) ≡ true
    → AreBarred bar slots (at + 1)
barred-next bar slots at x barred is here s y low there = elim (cases_eq s at) [
  | inl same ↦
      let e : Some x ≡ Some y = sym is ∙ ap (slot_at slots) (sym same) ∙ there in
      let f : x ≡ y = cc in
      ap (λ z. is_some (bar z.person)) (sym f) ∙ here
  | inr other ↦ barred s y (omega (arith, low, other)) there
]

-- ---- how many are passed over

passed_over-cons : (bar : ℕ → Option Bar) (m : ℕ) (x : Slot) (members : List Slot) → passed_over bar m (x ∷ members) ≡ cond (is_passed_over bar m x) 1 0 + passed_over bar m members
passed_over-cons bar m x members = go (is_passed_over bar m x)
  where
    go : (b : Bool) → length (cond b (x ∷ filter (is_passed_over bar m) members) (filter (is_passed_over bar m) members)) ≡ cond b 1 0 + passed_over bar m members
    go true = omega arith
    go false = omega arith

passed_over-later : (bar : ℕ → Option Bar) (m : ℕ) (slots : List (Option Slot)) (a b : ℕ) → a ≤ b → passed_over bar m (filled (take a slots)) ≤ passed_over bar m (filled (take b slots))
passed_over-later bar m slots zero b low = omega arith
passed_over-later bar m [] (suc a) b low = omega arith
passed_over-later bar m (x ∷ xs) (suc a) zero low = absurd (omega (arith, low))
passed_over-later bar m (None ∷ xs) (suc a) (suc b) low = passed_over-later bar m xs a b (omega (arith, low))
passed_over-later bar m (Some x ∷ xs) (suc a) (suc b) low =
    omega (arith, passed_over-cons bar m x (filled (take a xs)), passed_over-cons bar m x (filled (take b xs)), passed_over-later bar m xs a b (omega (arith, low)))

passed_over-here : (bar : ℕ → Option Bar) (m : ℕ) (slots : List (Option Slot)) (at : ℕ) (x : Slot) → slot_at slots at ≡ Some x → is_passed_over bar m x ≡ true
    → passed_over bar m (filled (take (suc at) slots)) ≡ passed_over bar m (filled (take at slots)) + 1
passed_over-here bar m [] at x is here = absurd (let e : None ≡ Some x = is in cc)
passed_over-here bar m (None ∷ xs) zero x is here = absurd (let e : None ≡ Some x = is in cc)
passed_over-here bar m (Some y ∷ xs) zero x is here =
    let e : y ≡ x = cc in
    let one : is_passed_over bar m y ≡ true = ap (is_passed_over bar m) e ∙ here in
    rw one refl
passed_over-here bar m (None ∷ xs) (suc at) x is here = passed_over-here bar m xs at x is here
passed_over-here bar m (Some y ∷ xs) (suc at) x is here =
    omega (arith, passed_over-cons bar m y (filled (take (suc at) xs)), passed_over-cons bar m y (filled (take at xs)), passed_over-here bar m xs at x is here)

-- one more than before
pub passed_over-next : (bar : ℕ → Option Bar) (m : ℕ) (slots : List (Option Slot)) (from at : ℕ) (x : Slot) → from ≤ at → slot_at slots at ≡ Some x → is_ready m (slot_at slots at) ≡ true
    → is_some (bar x.person) ≡ true → passed_over bar m (filled (take from slots)) + 1 ≤ passed_over bar m (filled (take (at + 1) slots))
passed_over-next bar m slots from at x low is ready here =
    let there : is_ready m (Some x) ≡ true = ap (is_ready m) (sym is) ∙ ready in
    let more = passed_over-here bar m slots at x is (and_from _ _ there here) in
    let last : suc at ≡ at + 1 = omega arith in
    omega (arith, more, ap (λ n. passed_over bar m (filled (take n slots))) last, passed_over-later bar m slots from at low)

pub passed_over-most : (bar : ℕ → Option Bar) (m : ℕ) (slots : List (Option Slot)) (from : ℕ) → from ≤ length slots → passed_over bar m (filled (take from slots)) ≤ passed_over bar m (filled slots)
passed_over-most bar m slots from low =
    let all = take_all (length slots) slots (omega arith) in
    omega (arith, passed_over-later bar m slots from (length slots) low, ap (λ xs. passed_over bar m (filled xs)) all)

-- ---- a chain

pub find-front : {X : Type 0} (test : X → Bool) (xs ys : List X) (x : X) → find test xs ≡ Some x → find test (xs ++ ys) ≡ Some x
find-front test [] ys x is = absurd (let e : None ≡ Some x = is in cc)
find-front test (z ∷ xs) ys x is = go (test z) is (λ rest. find-front test xs ys x rest)
  where
    go : (b : Bool) → cond b (Some z) (find test xs) ≡ Some x → (find test xs ≡ Some x → find test (xs ++ ys) ≡ Some x) → cond b (Some z) (find test (xs ++ ys)) ≡ Some x
    go true is rest = is
    go false is rest = rest is

pub find-behind : {X : Type 0} (test : X → Bool) (xs ys : List X) → find test xs ≡ None → find test (xs ++ ys) ≡ find test ys
find-behind test [] ys none = refl
find-behind test (z ∷ xs) ys none = go (test z) none (λ rest. find-behind test xs ys rest)
  where
    go : (b : Bool) → cond b (Some z) (find test xs) ≡ None → (find test xs ≡ None → find test (xs ++ ys) ≡ find test ys) → cond b (Some z) (find test (xs ++ ys)) ≡ find test ys
    go true none rest = absurd (let e : Some z ≡ None = none in cc)
    go false none rest = rest none

pub is_none-from : (o : Option Bar) → is_some o ≡ false → is_none o ≡ true
is_none-from None is = refl
is_none-from (Some b) is = absurd (false≢true (sym is))

-- the members of the board that a link names
pub members_at-link : (boards : List BoardValue) (chain : List ℕ) (link index : ℕ) (board : BoardValue) (members : List Slot) → index ≡ get_or chain link 0 → index < length boards
    → board ≡ get_or boards index board → members ≡ board.members → members_at boards (get_or chain link 0) ≡ members
members_at-link boards chain link index board members index_is within is are =
    ap (members_at boards) (sym index_is) ∙ ap members_of (slice_get_read boards (length boards) index board refl within is) ∙ sym are

-- one board of the chain, and those behind it
pub chain_from-next : (boards : List BoardValue) (chain : List ℕ) (link : ℕ) (members : List Slot) → link < length chain → members_at boards (get_or chain link 0) ≡ members
    → chain_from boards link (drop link chain) ≡ positions link 1 (persons members) ++ chain_from boards (link + 1) (drop (link + 1) chain)
chain_from-next boards chain link members low are =
    ap (chain_from boards link) (drop_more chain link 0 low) ∙ ap (λ ms. positions link 1 (persons ms) ++ chain_from boards (link + 1) (drop (link + 1) chain)) are

pub most_steps-next : (bar : ℕ → Option Bar) (m : ℕ) (boards : List BoardValue) (chain : List ℕ) (link : ℕ) (members : List Slot) → link < length chain
    → members_at boards (get_or chain link 0) ≡ members
    → most_steps bar m boards (drop link chain) ≡ (passed_over bar m members + 1) * 44 + most_steps bar m boards (drop (link + 1) chain)
most_steps-next bar m boards chain link members low are =
    ap (most_steps bar m boards) (drop_more chain link 0 low) ∙ ap (λ ms. (passed_over bar m ms + 1) * 44 + most_steps bar m boards (drop (link + 1) chain)) are
