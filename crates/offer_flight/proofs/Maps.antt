-- Offers that are kept in two lists are one map, and what is found after one is put in or taken out.
use Rattle.std.proofs.Common.{◌≡◌, ◌≢◌, ℕ, suc, ◌<◌, Bool, true, false, cond, ◌==◌, nat_eq, None, Some, List, [], ◌∷◌, length, get_or, map, refl, sym, ap, subst, ◌∙◌, arith}
use Rattle.std.specs.List.{insert, remove, AllByRecursion, IsDistinct}
use Rattle.std.proofs.lemmas.Bool.Decides.{nat_tests}
use Rattle.std.proofs.lemmas.List.Edits.{length-insert, length-remove}
use Rattle.offer_flight.specs.declared.flight.TheConstants.{OFFERS}
use Rattle.offer_flight.specs.declared.in_flight.InFlight.{InFlight}
use Rattle.offer_flight.specs.Flight.{of_vacancy, of_person, IsOneMap}
use Rattle.offer_flight.specs.Kept.{blank, vac_of, person_of, number_at, IsRising, AreApart, IsIndex, AreKept}
use Rattle.offer_flight.proofs.Lookups.{lookup, NoneBefore, lookup-at, lookup-has, none-lookup, index-found}
use Rattle.offer_flight.proofs.Edits.{lookup-insert, lookup-remove, rising-apart, rising-insert, apart-insert, rising-remove, apart-remove}

-- ---- one map

-- what stands in a list whose numbers differ is found by its number
lookup-own : (number : InFlight → ℕ) (l : List InFlight) (index : ℕ) → index < length l → AreApart number l → lookup number l (number_at number l index) ≡ Some (get_or l index blank)
lookup-own number l index within apart = lookup-at number l (number_at number l index) index within refl (λ i early same. apart i index early within same)

-- what is found stands somewhere
pub record Stands (l : List InFlight) (offer : InFlight) : Type 0 where
  pub index : ℕ
  pub within : index < length l
  pub is : get_or l index blank ≡ offer

found-stands : (number : InFlight → ℕ) (l : List InFlight) (asked : ℕ) (offer : InFlight) → lookup number l asked ≡ Some offer → Stands l offer
found-stands number [] asked offer found = absurd (grind (arith, found))
found-stands number (x ∷ l) asked offer found = go (number x == asked) found (λ rest. found-stands number l asked offer rest)
  where
    go : (b : Bool) → cond b (Some x) (lookup number l asked) ≡ Some offer → (lookup number l asked ≡ Some offer → Stands l offer) → Stands (x ∷ l) offer
    go true is later = record { index = 0; within = omega arith; is = grind (arith, is) }
    go false is later =
        let s = later is in
        record { index = suc s.index; within = omega (arith, s.within); is = s.is }

-- so it is found by another number too
found-too : (by too : InFlight → ℕ) (l : List InFlight) (asked : ℕ) (offer : InFlight) → AreApart too l → lookup by l asked ≡ Some offer → lookup too l (too offer) ≡ Some offer
found-too by too l asked offer apart found =
    let s = found-stands by l asked offer found in
    rw s.is at (lookup-own too l s.index s.within apart)

pub one-map : (l : List InFlight) → IsRising vac_of l → AreApart person_of l → IsOneMap l
one-map l rising apart = record {
  vacancy = lookup-has vac_of l;
  person = lookup-has person_of l;
  both = λ offer. (found-too vac_of person_of l (vac_of offer) offer apart, found-too person_of vac_of l (person_of offer) offer (rising-apart vac_of l rising));
}

-- numbers that differ are all different
others-differ : (number : InFlight → ℕ) (x : InFlight) (l : List InFlight) → ((i : ℕ) → i < length l → number x ≢ number_at number l i)
    → AllByRecursion (λ y. nat_eq (number x) y ≡ false) (map number l)
others-differ number x [] apart = tt
others-differ number x (y ∷ l) apart = (grind (arith, nat_tests, apart 0 (omega arith)), others-differ number x l (λ i within. apart (suc i) (omega (arith, within))))

pub distinct : (number : InFlight → ℕ) (l : List InFlight) → AreApart number l → IsDistinct nat_eq (map number l)
unfolding IsDistinct
distinct number [] apart = tt
distinct number (x ∷ l) apart = (
  others-differ number x l (λ i within. apart 0 (suc i) (omega arith) (omega (arith, within))),
  distinct number l (λ i j order within. apart (suc i) (suc j) (omega (arith, order)) (omega (arith, within))),
)

-- ---- an offer more

-- the indexes that were searched for, in lists that are the kept ones, whose first is what a contract sees
module _
    (v p seen w u : List InFlight) (room more : ℕ) (view : v ≡ seen) (kept : AreKept v room p more) (made : InFlight) (free : of_vacancy seen made.vac ≡ None) (idle : of_person seen made.person ≡ None)
    (index again : ℕ) (is_v : w ≡ v) (is_p : u ≡ p) (at : IsIndex vac_of w made.vac index) (at_too : IsIndex person_of u made.person again) where
  here : IsIndex vac_of v made.vac index
  here = subst (λ l. IsIndex vac_of l made.vac index) is_v at

  there : IsIndex person_of p made.person again
  there = subst (λ l. IsIndex person_of l made.person again) is_p at_too

  none_of_vacancy : NoneBefore vac_of v made.vac (length v)
  none_of_vacancy = none-lookup vac_of v made.vac (ap (λ l. of_vacancy l made.vac) view ∙ free)

  none_of_person : NoneBefore person_of v made.person (length v)
  none_of_person = none-lookup person_of v made.person (ap (λ l. of_person l made.person) view ∙ idle)

  none_again : NoneBefore person_of p made.person (length p)
  none_again = none-lookup person_of p made.person (kept.same made.person ∙ ap (λ l. of_person l made.person) view ∙ idle)

  person-put_in : (person : ℕ) → of_person (insert v index made) person ≡ cond (made.person == person) (Some made) (of_person v person)
  person-put_in person = lookup-insert person_of v index made person (λ i early. none_of_person i (omega (arith, early, here.within)))

  pub of_vacancy-put_in : (vac : ℕ) → of_vacancy (insert v index made) vac ≡ cond (made.vac == vac) (Some made) (of_vacancy seen vac)
  of_vacancy-put_in vac =
      lookup-insert vac_of v index made vac (λ i early. none_of_vacancy i (omega (arith, early, here.within)))
      ∙ ap (λ l. cond (made.vac == vac) (Some made) (of_vacancy l vac)) view

  pub of_person-put_in : (person : ℕ) → of_person (insert v index made) person ≡ cond (made.person == person) (Some made) (of_person seen person)
  of_person-put_in person = person-put_in person ∙ ap (λ l. cond (made.person == person) (Some made) (of_person l person)) view

  pub kept-put_in : length seen < OFFERS → AreKept (insert v index made) room (insert p again made) more
  kept-put_in fewer = record {
    rising = rising-insert vac_of v index made here.within kept.rising here none_of_vacancy;
    apart = apart-insert person_of v index made here.within kept.apart none_of_person;
    again = rising-insert person_of p again made there.within kept.again there none_again;
    same = λ person. lookup-insert person_of p again made person (λ i early. none_again i (omega (arith, early, there.within)))
        ∙ ap (cond (made.person == person) (Some made)) (kept.same person) ∙ sym (person-put_in person);
    long = omega (arith, length-insert p again made there.within, length-insert v index made here.within, kept.long);
    few = omega (arith, length-insert v index made here.within, fewer, ap length view);
    fits = kept.fits;
    fits_too = kept.fits_too;
  }

-- ---- an offer less

module _
    (v p seen w u : List InFlight) (room more : ℕ) (view : v ≡ seen) (kept : AreKept v room p more) (done : InFlight) (vac : ℕ) (found : Some done ≡ of_vacancy seen vac)
    (index again : ℕ) (is_v : w ≡ v) (is_p : u ≡ p) (at : IsIndex vac_of w vac index) (at_too : IsIndex person_of u done.person again) where
  of_v : of_vacancy v vac ≡ Some done
  of_v = ap (λ l. of_vacancy l vac) view ∙ sym found

  pub at_vacancy : (index < length v) × (get_or v index blank ≡ done)
  at_vacancy = index-found vac_of v vac index kept.rising (subst (λ l. IsIndex vac_of l vac index) is_v at) done of_v

  pub at_person : (again < length p) × (get_or p again blank ≡ done)
  at_person =
      index-found person_of p done.person again kept.again (subst (λ l. IsIndex person_of l done.person again) is_p at_too) done
      (kept.same done.person ∙ found-too vac_of person_of v vac done kept.apart of_v)

  person-taken_out : (person : ℕ) → of_person (remove v index) person ≡ cond (done.person == person) None (of_person v person)
  person-taken_out person = lookup-remove person_of v index person at_vacancy.0 kept.apart ∙ ap (λ o. cond (person_of o == person) None (of_person v person)) at_vacancy.1

  pub of_vacancy-taken_out : (other : ℕ) → of_vacancy (remove v index) other ≡ cond (vac == other) None (of_vacancy seen other)
  of_vacancy-taken_out other =
      lookup-remove vac_of v index other at_vacancy.0 (rising-apart vac_of v kept.rising)
      ∙ ap (λ n. cond (n == other) None (of_vacancy v other)) (ap vac_of at_vacancy.1 ∙ lookup-has vac_of v vac done of_v)
      ∙ ap (λ l. cond (vac == other) None (of_vacancy l other)) view

  pub of_person-taken_out : (person : ℕ) → of_person (remove v index) person ≡ cond (done.person == person) None (of_person seen person)
  of_person-taken_out person = person-taken_out person ∙ ap (λ l. cond (done.person == person) None (of_person l person)) view

  pub kept-taken_out : AreKept (remove v index) room (remove p again) more
  kept-taken_out = record {
    rising = rising-remove vac_of v index at_vacancy.0 kept.rising;
    apart = apart-remove person_of v index at_vacancy.0 kept.apart;
    again = rising-remove person_of p again at_person.0 kept.again;
    same = λ person. lookup-remove person_of p again person at_person.0 (rising-apart person_of p kept.again)
        ∙ ap (λ o. cond (person_of o == person) None (of_person p person)) at_person.1
        ∙ ap (cond (done.person == person) None) (kept.same person) ∙ sym (person-taken_out person);
    long = omega (arith, length-remove p again at_person.0, length-remove v index at_vacancy.0, kept.long);
    few = omega (arith, length-remove v index at_vacancy.0, kept.few);
    fits = kept.fits;
    fits_too = kept.fits_too;
  }
