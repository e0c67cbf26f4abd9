-- How offers are kept, and no rule: in one list by rising vacancy, and again in one by rising person.
use Rattle.std.specs.Prelude.{◌≡◌, ◌≢◌, ℕ, ◌<◌, ◌≤◌, List, length, slice_index_or}
use Rattle.offer_flight.specs.declared.flight.TheConstants.{OFFERS}
use Rattle.offer_flight.specs.declared.in_flight.InFlight.{InFlight}
use Rattle.offer_flight.specs.Flight.{of_person}

-- by which number offers are kept
abbrev pub vac_of : InFlight → ℕ
vac_of offer = offer.vac

abbrev pub person_of : InFlight → ℕ
person_of offer = offer.person

-- the number of the offer at an index; what is read behind the end is the number of no offer
abbrev pub blank : InFlight
blank = record { person = 0; vac = 0; board = 0; deadline = 0 }

abbrev pub number_at : (InFlight → ℕ) → List InFlight → ℕ → ℕ
number_at number offers index = number (slice_index_or offers index blank)

abbrev pub IsRising : (InFlight → ℕ) → List InFlight → Type 0
IsRising number offers = (i j : ℕ) → i < j → j < length offers → number_at number offers i < number_at number offers j

abbrev pub AreApart : (InFlight → ℕ) → List InFlight → Type 0
AreApart number offers = (i j : ℕ) → i < j → j < length offers → number_at number offers i ≢ number_at number offers j

-- the offer with a number stands at the index of a rising list, or would
pub record IsIndex (number : InFlight → ℕ) (offers : List InFlight) (asked index : ℕ) : Type 0 where
  pub within : index ≤ length offers
  pub below : (i : ℕ) → i < index → number_at number offers i < asked
  pub above : (i : ℕ) → index ≤ i → i < length offers → asked ≤ number_at number offers i

-- both lists have the same offer to each person, and there is room for all
pub record AreKept (vacancies : List InFlight) (room : ℕ) (persons : List InFlight) (more : ℕ) : Type 0 where
  pub rising : IsRising vac_of vacancies
  pub apart : AreApart person_of vacancies
  pub again : IsRising person_of persons
  pub same : (person : ℕ) → of_person persons person ≡ of_person vacancies person
  pub long : length persons ≡ length vacancies
  pub few : length vacancies ≤ OFFERS
  pub fits : OFFERS ≤ room
  pub fits_too : OFFERS ≤ more
