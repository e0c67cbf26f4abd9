-- What is found after an offer is put in or taken out, and the order after it.
use Rattle.std.proofs.Common.{◌≡◌, ℕ, zero, suc, ◌+◌, ◌-◌, ◌<◌, ◌≤◌, cond, ◌==◌, None, Some, List, [], ◌∷◌, length, refl, ap, subst, arith}
use Rattle.std.specs.List.{insert, remove}
use Rattle.std.proofs.lemmas.Bool.Decides.{nat_tests}
use Rattle.std.proofs.lemmas.List.Edits.{length-insert, get_or-insert_below, get_or-insert_at, get_or-insert_above, length-remove, get_or-remove_below, get_or-remove_above}
use Rattle.offer_flight.specs.declared.in_flight.InFlight.{InFlight}
use Rattle.offer_flight.specs.Kept.{blank, number_at, IsRising, AreApart, IsIndex}
use Rattle.offer_flight.proofs.Lookups.{lookup, NoneBefore, lookup-none}

pub lookup-insert : (number : InFlight → ℕ) (l : List InFlight) (index : ℕ) (x : InFlight) (asked : ℕ) → NoneBefore number l (number x) index
    → lookup number (insert l index x) asked ≡ cond (number x == asked) (Some x) (lookup number l asked)
lookup-insert number l zero x asked none = refl
lookup-insert number [] (suc index) x asked none = refl
lookup-insert number (y ∷ l) (suc index) x asked none =
    grind (arith, nat_tests, none 0 (omega arith), lookup-insert number l index x asked (λ i within. none (suc i) (omega arith)))

pub lookup-remove : (number : InFlight → ℕ) (l : List InFlight) (index asked : ℕ) → index < length l → AreApart number l
    → lookup number (remove l index) asked ≡ cond (number_at number l index == asked) None (lookup number l asked)
lookup-remove number [] index asked within apart = absurd (omega (arith, within))
lookup-remove number (x ∷ l) zero asked within apart =
    let rest : number x ≡ asked → lookup number l asked ≡ None = λ same. lookup-none number l asked (λ i before other. apart 0 (suc i) (omega arith) (omega (arith, before)) (grind (arith, same, other))) in
    grind (arith, nat_tests, rest)
lookup-remove number (x ∷ l) (suc index) asked within apart =
    grind (arith, nat_tests, apart 0 (suc index) (omega arith) within, lookup-remove number l index asked (omega (arith, within)) (λ i j order before. apart (suc i) (suc j) (omega (arith, order)) (omega (arith, before))))

pub rising-apart : (number : InFlight → ℕ) (l : List InFlight) → IsRising number l → AreApart number l
rising-apart number l rising i j order within same = omega (arith, rising i j order within, same)

module _ (number : InFlight → ℕ) (l : List InFlight) (index : ℕ) (x : InFlight) (within : index ≤ length l) where
  insert-below : (i : ℕ) → i < index → number_at number (insert l index x) i ≡ number_at number l i
  insert-below i early = ap number (get_or-insert_below l index x blank i early within)

  insert-here : (i : ℕ) → i ≡ index → number_at number (insert l index x) i ≡ number x
  insert-here i here = rw here (ap number (get_or-insert_at l index x blank within))

  insert-above : (i : ℕ) → index < i → number_at number (insert l index x) i ≡ number_at number l (i - 1)
  insert-above i late = subst (λ q. number_at number (insert l index x) q ≡ number_at number l (i - 1)) {x = i - 1 + 1} (omega arith) (ap number (get_or-insert_above l index x blank (i - 1) (omega arith) within))

  -- the number at an index: the old one there, the new one, or the old one before it
  number_at-insert : (i : ℕ) → (i < index → number_at number (insert l index x) i ≡ number_at number l i) × (i ≡ index → number_at number (insert l index x) i ≡ number x)
      × (index < i → number_at number (insert l index x) i ≡ number_at number l (i - 1))
  number_at-insert i = (insert-below i, insert-here i, insert-above i)

  pub rising-insert : IsRising number l → IsIndex number l (number x) index → NoneBefore number l (number x) (length l) → IsRising number (insert l index x)
  rising-insert rising at none i j order before =
      let long = length-insert l index x within in
      grind (
        arith,
        number_at-insert i,
        number_at-insert j,
        rising i j,
        rising i (j - 1),
        rising (i - 1) (j - 1),
        at.below i,
        at.above (j - 1),
        none (j - 1),
      )

  pub apart-insert : AreApart number l → NoneBefore number l (number x) (length l) → AreApart number (insert l index x)
  apart-insert apart none i j order before same =
      let long = length-insert l index x within in
      grind (
        arith,
        number_at-insert i,
        number_at-insert j,
        apart i j,
        apart i (j - 1),
        apart (i - 1) (j - 1),
        none i,
        none (j - 1),
        same,
      )

module _ (number : InFlight → ℕ) (l : List InFlight) (index : ℕ) (within : index < length l) where
  remove-below : (i : ℕ) → i < index → number_at number (remove l index) i ≡ number_at number l i
  remove-below i early = ap number (get_or-remove_below l index blank i early within)

  remove-above : (i : ℕ) → index ≤ i → number_at number (remove l index) i ≡ number_at number l (i + 1)
  remove-above i late = ap number (get_or-remove_above l index blank i late within)

  pub rising-remove : IsRising number l → IsRising number (remove l index)
  rising-remove rising i j order before =
      let long = length-remove l index within in
      grind (arith, remove-below i, remove-above i, remove-below j, remove-above j, rising i j, rising i (j + 1), rising (i + 1) (j + 1))

  pub apart-remove : AreApart number l → AreApart number (remove l index)
  apart-remove apart i j order before same =
      let long = length-remove l index within in
      grind (arith, remove-below i, remove-above i, remove-below j, remove-above j, apart i j, apart i (j + 1), apart (i + 1) (j + 1), same)
