-- What a core stands for.
use Rattle.std.specs.Prelude.{◌≡◌}
use Rattle.std.proofs.Common.{sym}
use Rattle.desk_model.specs.histories.History.{History}
use Rattle.fast_core.specs.declared.kept_desk.KeptDesk.{KeptDesk}
use Rattle.fast_core.specs.KeptDesk.{Tells}

-- there is a history of which the desk tells
abbrev pub IsSome : KeptDesk → Type 0
IsSome d = ∥ ((h : History) × Tells d h) ∥₁

-- it was opened as the history is
pub opened-as : (d : KeptDesk) (h : History) → Tells d h → h.opening ≡ d.opening
opened-as d h tells = sym tells.opening
