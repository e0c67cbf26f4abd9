-- In a legal history the state of a vacancy tells to whom it is on offer, whose it is, who began it, and whether it was annulled.
use Rattle.std.proofs.Common.{◌≡◌, ℕ, true, nat_eq, Option, None, Some, refl, sym, ap, ◌∙◌}
use Rattle.std.proofs.lemmas.Bool.{false≢true}
use Rattle.desk_model.specs.declared.vac_state.VacState.{VacState}
use Rattle.desk_model.specs.declared.vac_state.VacState.TheVariants as state
use Rattle.desk_model.specs.declared.offer.Offer.{Offer}
use Rattle.desk_model.specs.histories.History.{History}
use Rattle.desk_model.specs.offers.Offers.{is_of, open_offer, is_to}
use Rattle.desk_model.specs.offers.Assigned.{assigned, begun, is_annulled}
use Rattle.desk_model.specs.offers.States.{state_of}
use Rattle.desk_model.specs.histories.Legal.{IsLegal}
use Rattle.desk_model.proofs.OrderLemmas.{same_number, nat_eq-same}
use Rattle.desk_model.proofs.AssignedLemmas.{assigned-has}
use Rattle.desk_model.proofs.StateLemmas.{is_over, begun_in, offered_in, taken_in, offered_person, on-offer}
use Rattle.desk_model.proofs.StateStepLemmas.{tracks}

pub offered-state : (h : History) (v p : ℕ) → IsLegal h → is_to p (open_offer h v) ≡ true → state_of h v ≡ state.OnOffer p
offered-state h v p legal to = on-offer h v p (state_of h v) (tracks h v legal) to

pub state-offered : (h : History) (v p : ℕ) → IsLegal h → state_of h v ≡ state.OnOffer p → is_to p (open_offer h v) ≡ true
state-offered h v p legal is = go (open_offer h v) ((tracks h v legal).offered_to ∙ ap offered_in is)
  where
    go : (o : Option Offer) → offered_person o ≡ Some p → is_to p o ≡ true
    go None told = cc
    go (Some offer) told = let same : offer.person ≡ p = cc in ap (λ q. nat_eq q p) same ∙ nat_eq-same p

taken-in : (p : ℕ) (how : VacState) → taken_in p how ≡ true → how ≡ state.Taken p
taken-in p (state.Taken q) is = ap state.Taken (same_number q p is)
taken-in p other is = absurd (false≢true is)

pub taken-state : (h : History) (v p : ℕ) → IsLegal h → assigned h p ≡ Some v → state_of h v ≡ state.Taken p
taken-state h v p legal is =
    taken-in p (state_of h v) (sym ((tracks h v legal).mine p) ∙ sym (assigned-has h p v) ∙ ap (is_of v) is ∙ nat_eq-same v)

pub state-taken : (h : History) (v p : ℕ) → IsLegal h → state_of h v ≡ state.Taken p → assigned h p ≡ Some v
state-taken h v p legal is = go (assigned h p) (assigned-has h p v ∙ (tracks h v legal).mine p ∙ ap (taken_in p) is ∙ nat_eq-same p)
  where
    go : (o : Option ℕ) → is_of v o ≡ true → o ≡ Some v
    go None told = absurd (false≢true told)
    go (Some w) told = ap Some (same_number w v told)

begun-in : (p : ℕ) (how : VacState) → begun_in how ≡ Some p → how ≡ state.Begun p
begun-in p (state.Begun q) is = let same : q ≡ p = cc in ap state.Begun same
begun-in p other is = cc

pub begun-state : (h : History) (v p : ℕ) → IsLegal h → begun h v ≡ Some p → state_of h v ≡ state.Begun p
begun-state h v p legal is = begun-in p (state_of h v) (sym (tracks h v legal).started_by ∙ is)

pub state-begun : (h : History) (v p : ℕ) → IsLegal h → state_of h v ≡ state.Begun p → begun h v ≡ Some p
state-begun h v p legal is = (tracks h v legal).started_by ∙ ap begun_in is

over-in : (how : VacState) → is_over how ≡ true → how ≡ state.Annulled
over-in state.Annulled is = refl
over-in other is = absurd (false≢true is)

pub annulled-state : (h : History) (v : ℕ) → IsLegal h → is_annulled h v ≡ true → state_of h v ≡ state.Annulled
annulled-state h v legal is = over-in (state_of h v) (sym (tracks h v legal).annulled ∙ is)

pub state-annulled : (h : History) (v : ℕ) → IsLegal h → state_of h v ≡ state.Annulled → is_annulled h v ≡ true
state-annulled h v legal is = (tracks h v legal).annulled ∙ ap is_over is
