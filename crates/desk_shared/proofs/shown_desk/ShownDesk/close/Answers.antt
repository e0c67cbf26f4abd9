use Rattle.std.proofs.Common.{List, ap, sym, subst}
use Rattle.std.specs.List.{All}
use Rattle.desk_model.specs.statements.Entry.{EntryValue}
use Rattle.turn_gate.specs.Turns.{Knows}
use Rattle.desk_shared.proofs.KeptLemmas.{each-kept}
use Rattle.desk_shared.proofs.shown_desk.ShownDesk.close.Goals as goal

pub returns-in-Ok-clause-known : goal.returns-in-Ok-clause-known
returns-in-Ok-clause-known g c = subst (λ (es : List EntryValue). All (Knows es) c.args.seats.items) (sym (ap (λ h. h.entries) c.end.ensures.history)) c.in-Ok.ensures.known

pub returns-in-Ok-clause-kept : goal.returns-in-Ok-clause-kept
returns-in-Ok-clause-kept g c = each-kept (g.B.Steps.kept c.end.result) _ _ _ c.args.seats.items c.end.ensures.history c.end.ensures.kept c.in-Ok.ensures.sure
