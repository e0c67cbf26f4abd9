-- How a vacancy stands.
use Rattle.std.specs.Prelude.{ℕ, Option, None, Some, if◌then◌else◌}
use Rattle.desk_model.specs.declared.vac_state.VacState.{VacState}
use Rattle.desk_model.specs.declared.vac_state.VacState.TheVariants as state
use Rattle.desk_model.specs.declared.offer.Offer.{Offer}
use Rattle.desk_model.specs.histories.History.{History}
use Rattle.desk_model.specs.offers.Offers.{open_offer}
use Rattle.desk_model.specs.offers.Assigned.{holder, begun, is_annulled}

-- it is on offer; else it is vacant
abbrev pub open_state : Option Offer → VacState
open_state (Some offer) = state.OnOffer offer.person
open_state None = state.Vacant

-- somebody has it
abbrev pub taken_state : Option ℕ → VacState → VacState
taken_state (Some p) other = state.Taken p
taken_state None other = other

-- somebody has begun it
abbrev pub begun_state : Option ℕ → VacState → VacState
begun_state (Some p) other = state.Begun p
begun_state None other = other

-- the first of these that holds: it was annulled, begun, taken, or is on offer; else it is vacant
abbrev pub state_of : History → ℕ → VacState
state_of h v =
    if is_annulled h v then state.Annulled
    else begun_state (begun h v) (taken_state (holder h v) (open_state (open_offer h v)))
