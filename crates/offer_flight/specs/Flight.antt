-- The offers that are open, as a list.
use Rattle.std.specs.Prelude.{◌≡◌, ◌==◌, ◌↔◌, ℕ, Option, Some, List, map}
use Rattle.std.specs.List.{find}
use Rattle.offer_flight.specs.declared.in_flight.InFlight.{InFlight}

-- the open offer of a vacancy, and that to a person (this desk's own rule: one at a time)
abbrev pub of_vacancy : List InFlight → ℕ → Option InFlight
of_vacancy offers vac = find (λ offer. offer.vac == vac) offers

abbrev pub of_person : List InFlight → ℕ → Option InFlight
of_person offers person = find (λ offer. offer.person == person) offers

-- to whom offers are open
abbrev pub persons_of : List InFlight → List ℕ
persons_of offers = map (λ offer. offer.person) offers

-- an offer is its vacancy's just where it is its person's
pub record IsOneMap (offers : List InFlight) : Type 0 where
  pub vacancy : (vac : ℕ) (offer : InFlight) → of_vacancy offers vac ≡ Some offer → offer.vac ≡ vac
  pub person : (person : ℕ) (offer : InFlight) → of_person offers person ≡ Some offer → offer.person ≡ person
  pub both : (offer : InFlight) → (of_vacancy offers offer.vac ≡ Some offer) ↔ (of_person offers offer.person ≡ Some offer)
