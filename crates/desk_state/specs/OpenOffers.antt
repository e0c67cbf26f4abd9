-- What is kept of open offers, beside what a history says of them.
use Rattle.std.specs.Prelude.{◌≡◌, ℕ, ◌+◌, ◌<◌, ⊤, true, Option, None, Some, is_some, List, length}
use Rattle.std.specs.Option.{option_map}
use Rattle.offer_flight.specs.declared.in_flight.InFlight.{InFlight}
use Rattle.offer_flight.specs.Flight.{of_vacancy, of_person}
use Rattle.offer_flight.specs.declared.flight.TheConstants.{OFFERS}
use Rattle.desk_model.specs.declared.offer.Offer.{Offer}
use Rattle.desk_model.specs.histories.History.{History}
use Rattle.desk_model.specs.histories.Register.{person_of, boards}
use Rattle.desk_model.specs.offers.Offers.{open_offer, on_offer}
use Rattle.desk_register.specs.Among.{board_index}

-- what is kept is this offer: the same person, its board by the index among all, and the end of the minutes for an answer
pub record IsSame (codes : List (List ℕ)) (minutes : ℕ) (kept : InFlight) (offer : Offer) : Type 0 where
  pub person : kept.person ≡ offer.person
  pub board : board_index codes offer.board ≡ Some kept.board
  pub deadline : kept.deadline ≡ offer.made + minutes

-- an offer is kept just where one is open, and is that one
abbrev pub IsOffer : List (List ℕ) → ℕ → Option InFlight → Option Offer → Type 0
IsOffer codes minutes None None = ⊤
IsOffer codes minutes (Some kept) (Some offer) = IsSame codes minutes kept offer
IsOffer codes minutes kept offer = ⊥

-- that is so of each vacancy; the offer that is kept of a person is of the vacancy that is on offer to them; and who has one is
-- enrolled
pub record AreOffers (flight : List InFlight) (minutes : ℕ) (h : History) : Type 0 where
  pub each : (v : ℕ) → IsOffer (boards h) minutes (of_vacancy flight v) (open_offer h v)
  pub to : (p : ℕ) → option_map (λ offer. offer.vac) (of_person flight p) ≡ on_offer h p
  pub enrolled : (p : ℕ) → is_some (of_person flight p) ≡ true → is_some (person_of h p) ≡ true

-- an offer may be opened: neither its vacancy nor its person has one, and there is room
pub record CanStart (flight : List InFlight) (made : InFlight) : Type 0 where
  pub vacancy : of_vacancy flight made.vac ≡ None
  pub person : of_person flight made.person ≡ None
  pub room : length flight < OFFERS
