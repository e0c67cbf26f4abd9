use Rattle.std.proofs.Common.{List, ap, subst, sym, ◌∙◌}
use mathlib.Core.List.{IsPrefix}
use Rattle.desk_model.specs.statements.Entry.{EntryValue}
use Rattle.board_window.specs.Windows.{WallValue}
use Rattle.board_window.proofs.WallLemmas.{shown-begins}
use Rattle.board_window.proofs.wall.Wall.publish.Goals as goal

pub returns-clause-more : goal.returns-clause-more
returns-clause-more g c =
    let queued = subst (λ (w : WallValue). IsPrefix w.shown w.queued) c.self.view_is (shown-begins _ _ c.self.invariant.5) in
    let now = ap (λ s. s.front.entries) c.publish.ensures.shown ∙ sym (ap (λ f. f.entries) c.self.invariant.3) ∙ ap (λ (w : WallValue). w.queued) c.self.view_is in
    subst (λ (es : List EntryValue). IsPrefix c.args.self.now.shown es) (sym now) queued
