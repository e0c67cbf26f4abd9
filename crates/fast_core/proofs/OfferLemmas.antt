-- Open offers are made in the years 2000 to 2099, and a code stands at its index among all.
use Rattle.std.proofs.Common.{◌≡◌, ℕ, ◌+◌, Option, None, Some, is_some, IfSome, List, get_or, unwrap_or, sym, ap, ◌∙◌}
use Rattle.std.proofs.lemmas.Bool.{false≢true}
use Rattle.desk_base.specs.Number.{IsNumber}
use Rattle.std.specs.Str.{bytes_eq}
use Rattle.std.specs.List.{All, slice_get}
use Rattle.std.proofs.lemmas.List.Quantifiers.{position-Some}
use Rattle.std.proofs.lemmas.Option.{slice_get-get_or}
use Rattle.std.proofs.lemmas.Slice.Eq.{bytes_eq-Decides}
use Rattle.desk_base.specs.Minute.{IsInYears}
use Rattle.desk_model.specs.declared.offer.Offer.{Offer}
use Rattle.desk_model.specs.statements.Fits.{Fits}
use Rattle.desk_model.specs.histories.History.{History}
use Rattle.desk_model.specs.histories.Register.{boards}
use Rattle.desk_model.specs.offers.Offers.{open_offer}
use Rattle.desk_model.proofs.FitRegisterLemmas.{open_offer-fits}
use Rattle.desk_register.specs.Among.{board_index}
use Rattle.offer_flight.specs.declared.in_flight.InFlight.{InFlight}
use Rattle.desk_state.specs.OpenOffers.{IsOffer}

of_some : {X : Type 0} {x y : X} → Some x ≡ Some y → x ≡ y
of_some {x = x} is = ap (λ o. unwrap_or o x) is

abbrev offer_of : ℕ → List ℕ → ℕ → Offer
offer_of person board made = record { person = person; board = board; made = made }

-- a code that has an index stands there
pub code-at : (codes : List (List ℕ)) (b : List ℕ) (i : ℕ) → board_index codes b ≡ Some i → slice_get codes i ≡ Some b
code-at codes b i is =
    let at = position-Some (bytes_eq b) codes i b is in
    slice_get-get_or codes i b at.0 ∙ ap Some (sym ((bytes_eq-Decides b (get_or codes i b)).0 at.1))

-- what is told of the offer that is kept is the open offer
pub offer-is : (h : History) (v minutes : ℕ) (kept : InFlight) (board : List ℕ) (found : Option ℕ) (made_is : ℕ) → All Fits h.entries
    → IsOffer (boards h) minutes (Some kept) (open_offer h v) → Some board ≡ slice_get (boards h) kept.board
    → ((made : ℕ) → IsInYears made → kept.deadline ≡ made + minutes → found ≡ Some made) → found ≡ Some made_is
    → Some (record { person = kept.person; board = board; made = made_is }) ≡ open_offer h v
offer-is h v minutes kept board found made_is fits same at before is = go (open_offer h v) same (open_offer-fits h v fits)
  where
    go : (o : Option Offer) → IsOffer (boards h) minutes (Some kept) o → IfSome o (λ x. IsNumber x.person × IsInYears x.made)
        → Some (record { person = kept.person; board = board; made = made_is }) ≡ o
    go None same fit = absurd same
    go (Some offer) same fit =
        let b : board ≡ offer.board = of_some (at ∙ code-at (boards h) offer.board kept.board same.board) in
        let m : made_is ≡ offer.made = of_some (sym is ∙ before offer.made fit.1 same.deadline) in
        ap Some (ap (λ p. offer_of p board made_is) same.person ∙ ap (λ x. offer_of offer.person x made_is) b ∙ ap (offer_of offer.person offer.board) m)

-- and it was made in those years
pub made-some : (h : History) (v minutes : ℕ) (kept : InFlight) (found : Option ℕ) → All Fits h.entries → IsOffer (boards h) minutes (Some kept) (open_offer h v)
    → ((made : ℕ) → IsInYears made → kept.deadline ≡ made + minutes → found ≡ Some made) → found ≡ None → ⊥
made-some h v minutes kept found fits same before none = go (open_offer h v) same (open_offer-fits h v fits)
  where
    go : (o : Option Offer) → IsOffer (boards h) minutes (Some kept) o → IfSome o (λ x. IsNumber x.person × IsInYears x.made) → ⊥
    go None same fit = same
    go (Some offer) same fit = false≢true (ap is_some (sym none ∙ before offer.made fit.1 same.deadline))
