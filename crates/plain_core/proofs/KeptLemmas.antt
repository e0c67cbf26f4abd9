-- What is kept of a legal history, and the entry that a step adds.
use Rattle.std.proofs.Common.{◌≡◌, ℕ, ◌≤◌, ◌<◌, ◌^◌, ◌⊎◌, inl, inr, arith, Option, None, Some, IfSome, List, [], ◌∷◌, ◌++◌, length, refl, sym, ap, subst}
use Rattle.std.specs.List.{All}
use Rattle.std.specs.Coded.{le_prop}
use Rattle.std.proofs.Math.Logic.{∥∥₁_elim}
use Rattle.std.proofs.lemmas.Option.{IfSome_then}
use Rattle.desk_base.specs.declared.minute.TheConstants.{YEARS_BEGIN}
use Rattle.desk_base.specs.Minute.{IsInYears}
use Rattle.desk_model.specs.declared.offer.Offer.{Offer}
use Rattle.desk_model.specs.declared.limits.TheConstants.{MEMBER_LIMIT}
use Rattle.desk_model.specs.statements.Opening.{OpeningValue, IsOpening}
use Rattle.desk_model.specs.statements.Statement.{StatedValue}
use Rattle.desk_model.specs.statements.Entry.{EntryValue}
use Rattle.desk_model.specs.histories.History.{History, history_of, opened, with_entry}
use Rattle.desk_model.specs.boards.Boards.{order}
use Rattle.desk_model.specs.statements.Fits.{Fits}
use Rattle.desk_model.specs.offers.Offers.{open_offer}
use Rattle.desk_model.specs.offers.Held.{hold_end}
use Rattle.desk_model.specs.histories.Legal.{next, MayState, IsNext, IsLegal}
use Rattle.desk_model.proofs.LegalLemmas.{legal-opened, legal-with, IsNext-next}
use Rattle.desk_model.proofs.BoundLemmas.{length-order}
use Rattle.desk_model.proofs.FitRegisterLemmas.{open_offer-fits}
use Rattle.desk_model.proofs.HeldLemmas.{hold_end-fits}
use Rattle.plain_core.specs.Kept.{IsKept}

pub kept-opened : (o : OpeningValue) → IsOpening o → IsKept o [] (opened o)
kept-opened o valid = record { is = refl; legal = legal-opened o valid }

pub length-kept : (o : OpeningValue) (es : List EntryValue) (b : List ℕ) → ∥ IsLegal (history_of o es) ∥₁ → length (order (history_of o es) b) ≤ MEMBER_LIMIT
length-kept o es b legal = ∥∥₁_elim legal le_prop (λ fine. length-order (history_of o es) b fine)

made-prop : (o : Option Offer) → IsProp (IfSome o (λ offer. IsInYears offer.made))
made-prop None = hlevel
made-prop (Some offer) = hlevel le_prop

-- where legal histories fit, an open offer was made in the years 2000 to 2099
pub made-kept : ((h : History) → IsLegal h → All Fits h.entries) → (o : OpeningValue) (es : List EntryValue) (v : ℕ) → ∥ IsLegal (history_of o es) ∥₁
    → IfSome (open_offer (history_of o es) v) (λ offer. IsInYears offer.made)
made-kept fit o es v legal = ∥∥₁_elim legal (made-prop (open_offer h v)) (λ fine. IfSome_then (open_offer h v) (open_offer-fits h v (fit h fine)) (λ offer is. is.1))
  where
    h : History
    h = history_of o es

-- where legal histories fit, a hold ends at a minute
pub hold_end-kept : ((h : History) → IsLegal h → All Fits h.entries) → (o : OpeningValue) (es : List EntryValue) (codes : List (List ℕ)) (p : ℕ) → ∥ IsLegal (history_of o es) ∥₁
    → hold_end (history_of o es) codes p < 2 ^ 28
hold_end-kept fit o es codes p legal = ∥∥₁_elim legal le_prop (λ fine. small (hold_end-fits (history_of o es) codes p (fit (history_of o es) fine)))
  where
    small : (hold_end (history_of o es) codes p ≡ 0) ⊎ ((YEARS_BEGIN ≤ hold_end (history_of o es) codes p) × (hold_end (history_of o es) codes p < 2 ^ 28))
        → hold_end (history_of o es) codes p < 2 ^ 28
    small (inl none) = omega (arith, none)
    small (inr fits) = fits.1

-- the entry that the rules give comes next
comes : (h : History) (e : EntryValue) (caller : ℕ) (s : StatedValue) → MayState caller s → e ≡ next h caller s → IsNext h e
comes h e caller s may is = subst (IsNext h) (sym is) (IsNext-next h caller s may)

pub known-next : (o : OpeningValue) (es : List EntryValue) (e : EntryValue) (caller : ℕ) (s : StatedValue) → ∥ IsLegal (history_of o es) ∥₁ → MayState caller s
    → ((h : History) → IsKept o es h → e ≡ next h caller s) → ∥ IsLegal (history_of o (es ++ e ∷ [])) ∥₁
known-next o es e caller s legal may answers =
    ∥∥₁_elim legal squash₁ (λ fine.
    ∣ legal-with (history_of o es) e fine (comes (history_of o es) e caller s may (answers (history_of o es) (record { is = refl; legal = fine }))) ∣₁)

pub kept-next : (o : OpeningValue) (es : List EntryValue) (h : History) (e : EntryValue) (caller : ℕ) (s : StatedValue) → IsKept o es h → MayState caller s
    → e ≡ next h caller s → IsKept o (es ++ e ∷ []) (with_entry h e)
kept-next o es h e caller s kept may answer = record {
  is = ap (λ past. with_entry past e) kept.is;
  legal = legal-with h e kept.legal (comes h e caller s may answer);
}
