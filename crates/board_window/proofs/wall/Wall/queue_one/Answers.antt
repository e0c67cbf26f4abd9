use Rattle.std.proofs.Common.{[], ◌∷◌, ◌++◌, sym, subst}
use Rattle.desk_model.specs.statements.Entry.{EntryValue}
use Rattle.desk_model.specs.histories.History.{history_of}
use Rattle.desk_model.specs.histories.Legal.{IsLegal}
use Rattle.board_window.specs.Walls.{history_in, longer_by}
use Rattle.board_window.specs.Windows.{WallValue}
use Rattle.board_window.specs.declared.wall_name.WallName.{WallName}
use Rattle.board_window.proofs.WallLemmas.{Stand-more}
use Rattle.board_window.proofs.wall.Wall.queue_one.Goals as goal

pub invariant_of-self-in-Ok : goal.invariant_of-self-in-Ok
invariant_of-self-in-Ok c =
    let wall = c.self.inside in
    let queued = wall.queued in
    let change = c.in-Some.change in
    let by_view = subst (λ (w : WallValue). IsLegal (history_of w.wall.opening (w.queued ++ c.args.entry.now ∷ []))) (sym c.self.view_is) c.requires.legal in
    let by_wall = subst (λ (w : WallName). IsLegal (history_of w.opening (queued.entries ++ c.args.entry.now ∷ []))) (sym c.self.invariant.2) by_view in
    let legal : IsLegal (history_in (longer_by queued change.entry)) = subst (λ (e : EntryValue). IsLegal (history_of queued.wall.opening (queued.entries ++ e ∷ []))) (sym c.in-Some.ensures.entry) by_wall in
    rw (c.in-Ok.ensures.desk, c.again-front.ensures, c.take-waiting.ensures.after) (Stand-more c.what_an_entry_makes_of_the_boards.ensures _ wall.copies.desk.shown.value _ _ queued wall.list _ wall.waiting change c.self.invariant
    c.in-Ok.ensures.pending c.in-Some.ensures.change c.in-Some.ensures.front (c.the_last_entry_is_next.ensures.legal _ _ legal) (c.the_last_entry_is_next.ensures.next _ _ legal))
