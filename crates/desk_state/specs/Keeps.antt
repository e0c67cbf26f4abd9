-- What is kept of offers and holds is what a history says of them.
use Rattle.std.specs.Prelude.{◌≡◌, ℕ, ◌≤◌, List, length}
use Rattle.offer_flight.specs.declared.in_flight.InFlight.{InFlight}
use Rattle.desk_model.specs.declared.limits.TheConstants.{PERSON_LIMIT, BOARD_LIMIT}
use Rattle.desk_model.specs.histories.History.{History}
use Rattle.desk_model.specs.histories.Register.{persons, boards}
use Rattle.desk_state.specs.OpenOffers.{AreOffers}
use Rattle.desk_state.specs.Holds.{end_at, AreHolds}
use Rattle.desk_state.specs.declared.offers.Offers.{Offers}

-- the open offers that are kept, the ends of holds, and how many minutes there are for an answer
abbrev pub flight_of : Offers → List InFlight
flight_of x = x.flight

abbrev pub ends_of : Offers → ℕ → ℕ → ℕ
ends_of x = end_at x.holds

abbrev pub minutes_of : Offers → ℕ
minutes_of x = x.answer

-- no more persons and boards than a desk takes
pub record AreFew (h : History) : Type 0 where
  pub enrolled : length (persons h) ≤ PERSON_LIMIT
  pub set_up : length (boards h) ≤ BOARD_LIMIT

-- offers and holds are those of the history
pub record Keeps (x : Offers) (h : History) : Type 0 where
  pub offers : AreOffers (flight_of x) (minutes_of x) h
  pub holds : AreHolds (ends_of x) h
  pub answer : minutes_of x ≡ h.opening.answer
  pub few : AreFew h
