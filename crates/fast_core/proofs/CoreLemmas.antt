-- A core that stands for some history stands for one after each entry.
use Rattle.std.proofs.Common.{◌≡◌, ◌≤◌, ℕ, sym, subst}
use Rattle.std.proofs.Math.Logic.{∥∥₁_elim}
use Rattle.desk_model.specs.declared.limits.TheConstants.{LAST_CALLER}
use Rattle.desk_model.specs.statements.Statement.{StatedValue}
use Rattle.desk_model.specs.statements.Fits.{IsStated}
use Rattle.desk_model.specs.statements.Entry.{EntryValue}
use Rattle.desk_model.specs.histories.History.{History}
use Rattle.desk_model.specs.histories.Legal.{next, IsNext}
use Rattle.desk_model.proofs.LegalLemmas.{IsNext-next}
use Rattle.fast_core.specs.declared.kept_desk.KeptDesk.{KeptDesk}
use Rattle.fast_core.specs.KeptDesk.{Tells}
use Rattle.fast_core.specs.Core.{IsSome}

-- what was answered as the rules give it is the next entry
pub answered-next : (h : History) (caller : ℕ) (s : StatedValue) (e : EntryValue) → caller ≤ LAST_CALLER → IsStated s → e ≡ next h caller s → IsNext h e
answered-next h caller s e caller_in stated is = subst (IsNext h) (sym is) (IsNext-next h caller s (record { caller_in = caller_in; stated = stated }))

pub some-later : (old new : KeptDesk) → IsSome old → ((h : History) → Tells old h → (later : History) × Tells new later) → IsSome new
some-later old new some keeps = ∥∥₁_elim some squash₁ (λ x. ∣ keeps x.0 x.1 ∣₁)
