-- The history that a core keeps.
use Rattle.std.specs.Prelude.{◌≡◌, refl, List}
use Rattle.std.proofs.Common.{ap}
use Rattle.std.proofs.Math.Logic.{∥∥₁_elim}
use Rattle.desk_model.specs.statements.Opening.{OpeningValue}
use Rattle.desk_model.specs.statements.Entry.{EntryValue}
use Rattle.desk_model.specs.histories.History.{History, history_of}
use Rattle.desk_model.specs.histories.Legal.{IsLegal}

-- the opening and the entries that are kept are this history's, and it is legal
pub record IsKept (o : OpeningValue) (entries : List EntryValue) (h : History) : Type 0 where
  pub is : h ≡ history_of o entries
  pub legal : IsLegal h

-- where what is kept is legal there is such a history
pub some-kept : (o : OpeningValue) (entries : List EntryValue) → ∥ IsLegal (history_of o entries) ∥₁ → ∥ ((h : History) × IsKept o entries h) ∥₁
some-kept o entries legal = ∥∥₁_elim legal squash₁ (λ fine. ∣ (history_of o entries, record { is = refl; legal = fine }) ∣₁)

-- it was opened as is kept
pub opened-as : (o : OpeningValue) (entries : List EntryValue) (h : History) → IsKept o entries h → h.opening ≡ o
opened-as o entries h kept = ap (λ (x : History). x.opening) kept.is
