-- What is found among offers by a number, and where it stands.
use Rattle.std.proofs.Common.{◌≡◌, ◌≢◌, ℕ, zero, suc, ◌<◌, ◌≤◌, Bool, true, false, cond, ◌==◌, nat_lt, Option, None, Some, List, [], ◌∷◌, length, get_or, inl, inr, refl, ap, arith}
use Rattle.std.specs.List.{find}
use Rattle.std.specs.List.Sorted.{IsPartitionedBy, IsPartitionPoint}
use Rattle.std.proofs.lemmas.Bool.{cases_lt, cases_eq}
use Rattle.std.proofs.lemmas.Bool.Decides.{nat_tests}
use Rattle.std.proofs.lemmas.List.{get_or_default}
use Rattle.offer_flight.specs.declared.in_flight.InFlight.{InFlight}
use Rattle.offer_flight.specs.Kept.{blank, number_at, IsRising, IsIndex}

-- the first offer with a number
abbrev pub lookup : (InFlight → ℕ) → List InFlight → ℕ → Option InFlight
lookup number offers asked = find (λ offer. number offer == asked) offers

-- none of the first so many has it
abbrev pub NoneBefore : (InFlight → ℕ) → List InFlight → ℕ → ℕ → Type 0
NoneBefore number offers asked index = (i : ℕ) → i < index → number_at number offers i ≢ asked

none_before-tail : (number : InFlight → ℕ) (x : InFlight) (l : List InFlight) (asked index : ℕ) → NoneBefore number (x ∷ l) asked (suc index) → NoneBefore number l asked index
none_before-tail number x l asked index none i within = none (suc i) (omega arith)

pub lookup-none : (number : InFlight → ℕ) (l : List InFlight) (asked : ℕ) → NoneBefore number l asked (length l) → lookup number l asked ≡ None
lookup-none number [] asked none = refl
lookup-none number (x ∷ l) asked none = grind (arith, nat_tests, none 0 (omega arith), lookup-none number l asked (none_before-tail number x l asked (length l) none))

pub lookup-at : (number : InFlight → ℕ) (l : List InFlight) (asked index : ℕ) → index < length l → number_at number l index ≡ asked → NoneBefore number l asked index
    → lookup number l asked ≡ Some (get_or l index blank)
lookup-at number [] asked index within is none = absurd (omega (arith, within))
lookup-at number (x ∷ l) asked zero within is none = grind (arith, nat_tests, is)
lookup-at number (x ∷ l) asked (suc index) within is none =
    grind (arith, nat_tests, none 0 (omega arith), lookup-at number l asked index (omega (arith, within)) is (none_before-tail number x l asked index none))

-- where none is found none has the number
later : (x : InFlight) (b : Bool) (rest : Option InFlight) → cond b (Some x) rest ≡ None → rest ≡ None
later x true rest is = absurd (grind (arith, is))
later x false rest is = is

pub none-lookup : (number : InFlight → ℕ) (l : List InFlight) (asked : ℕ) → lookup number l asked ≡ None → NoneBefore number l asked (length l)
none-lookup number [] asked none i within same = absurd (omega (arith, within))
none-lookup number (x ∷ l) asked none zero within same = absurd (grind (arith, nat_tests, none, same))
none-lookup number (x ∷ l) asked none (suc i) within same = none-lookup number l asked (later x (number x == asked) (lookup number l asked) none) i (omega (arith, within)) same

-- what is found has the number
pub lookup-has : (number : InFlight → ℕ) (l : List InFlight) (asked : ℕ) (offer : InFlight) → lookup number l asked ≡ Some offer → number offer ≡ asked
lookup-has number [] asked offer found = absurd (grind (arith, found))
lookup-has number (x ∷ l) asked offer found = grind (arith, nat_tests, found, lookup-has number l asked offer)

-- a search among rising numbers ends at the index
module _ (number : InFlight → ℕ) (l : List InFlight) (asked : ℕ) (rising : IsRising number l) where
  pub parted : IsPartitionedBy (λ offer. nat_lt (number offer) asked) l
  parted i j d order within is =
      let here = ap number (get_or_default l i d blank (omega (arith, order, within))) in
      let there = ap number (get_or_default l j d blank within) in
      let rise : number_at number l i ≤ number_at number l j = grind (arith, rising i j, λ (same : i ≡ j). ap (number_at number l) same) in
      grind (arith, nat_tests, here, there, rise, is)

  pub index-of : (index : ℕ) → index ≤ length l → IsPartitionPoint (λ offer. nat_lt (number offer) asked ≡ true) (λ offer. nat_lt (number offer) asked ≡ false) l index → IsIndex number l asked index
  index-of index within point = record {
    within = within;
    below = λ i early. let is = point.0 i blank (omega arith) early in grind (arith, nat_tests, is);
    above = λ i late before. let is = point.1 i blank late before in grind (arith, nat_tests, is);
  }

module _ (number : InFlight → ℕ) (l : List InFlight) (asked index : ℕ) (rising : IsRising number l) (at : IsIndex number l asked index) where
  -- the offer at the index, where it has the number
  pub index-has : index < length l → number_at number l index ≡ asked → lookup number l asked ≡ Some (get_or l index blank)
  index-has within is = lookup-at number l asked index within is (λ i early same. omega (arith, at.below i early, same))

  -- else none
  pub index-lacks : (index < length l → number_at number l index ≢ asked) → lookup number l asked ≡ None
  index-lacks other = lookup-none number l asked (λ i within same. elim (cases_lt i index) [
    | inl early ↦ omega (arith, at.below i early, same)
    | inr late ↦ elim (cases_eq i index) [
      | inl here ↦ other (omega (arith, here, within)) (grind (arith, here, same))
      | inr behind ↦ omega (arith, rising index i (omega (arith, late, behind)) within, at.above index (omega arith) (omega (arith, late, within)), same)
    ]
  ])

  -- and so it stands there where it is found
  pub index-found : (offer : InFlight) → lookup number l asked ≡ Some offer → (index < length l) × (get_or l index blank ≡ offer)
  index-found offer found = elim (cases_lt index (length l)) [
    | inl within ↦ elim (cases_eq (number_at number l index) asked) [
      | inl is ↦ (within, grind (arith, index-has within is, found))
      | inr other ↦ absurd (grind (arith, index-lacks (λ w. other), found))
    ]
    | inr behind ↦ absurd (grind (arith, index-lacks (λ within. absurd (omega (arith, behind, within))), found))
  ]
