-- What is told of what is shown.
use Rattle.std.proofs.Common.{◌≡◌, Bool, true, List, IfSome, sym, subst}
use Rattle.std.specs.Bool.{OnTrue}
use Rattle.std.specs.declared.option.Option.{Option}
use Rattle.std.specs.declared.option.Option.TheVariants.{None, Some}
use Rattle.std.proofs.lemmas.Bool.{OnTrue_at}
use Rattle.board_window.specs.declared.showing.Showing.{Showing}
use Rattle.desk_model.specs.statements.Entry.{EntryValue}
use Rattle.turn_gate.specs.Seats.{GateValue}
use Rattle.desk_shared.specs.Shown.{ShowsTo}

-- only what is kept is told
pub told-some : (told : Option Showing) (showing : Showing) (kept : Bool) (P : Showing → Type 0) → IfSome told (λ t. (t ≡ showing) × (kept ≡ true)) → OnTrue kept (P showing) → IfSome told P
told-some None showing kept P is holds = tt
told-some (Some t) showing kept P is holds = subst P (sym is.0) (OnTrue_at is.1 holds)

pub told-shown : (told : Option Showing) (showing : Showing) (kept : Bool) (desk : GateValue) (known : List EntryValue) → IfSome told (λ t. (t ≡ showing) × (kept ≡ true))
    → ShowsTo desk showing.note showing.behind known → IfSome told (λ s. ShowsTo desk s.note s.behind known)
told-shown None showing kept desk known is shows = tt
told-shown (Some t) showing kept desk known is shows = subst (λ (s : Showing). ShowsTo desk s.note s.behind known) (sym is.0) shows
