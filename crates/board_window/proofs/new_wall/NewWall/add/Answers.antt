use Rattle.std.proofs.Common.{[], ◌∷◌, refl, ap, sym, ◌∙◌, subst}
use Rattle.desk_model.specs.statements.Entry.{EntryValue}
use Rattle.desk_model.specs.histories.Legal.{IsLegal}
use Rattle.board_window.specs.Shelves.{after, IsNextChange, IsRight}
use Rattle.board_window.specs.Walls.{FrontValue, history_in, longer_by}
use Rattle.board_window.proofs.WallLemmas.{right-after}
use Rattle.board_window.proofs.new_wall.NewWall.add.Goals as goal

pub invariant_of-self-2 : goal.invariant_of-self-2
invariant_of-self-2 c =
    let was = c.self.inside in
    let e = c.args.entry.now in
    let change = c.in-Some.change in
    let told = c.in-Some.ensures in
    let list = c.self.invariant.0 in
    let legal : IsLegal (history_in (longer_by was.first.front change.entry)) =
    subst (λ (f : FrontValue). IsLegal (history_in (longer_by f change.entry))) (sym (list ∙ c.self.view_is))
    (subst (λ (x : EntryValue). IsLegal (history_in (longer_by c.args.self.now x))) (sym told.entry) c.requires.legal) in
    let is : IsNextChange was.first.front change = subst (λ (f : FrontValue). IsNextChange f change) (sym list) told.change in (
      ap (λ s. s.front) c.follow.ensures ∙ sym told.front,
      c.follow-2.ensures ∙ (ap (λ s. after s change) c.self.invariant.1 ∙ sym c.follow.ensures),
      subst IsRight (sym c.follow.ensures) (right-after c.what_an_entry_makes_of_the_boards.ensures was.first change (change ∷ []) refl is
          (c.the_last_entry_is_next.ensures.legal _ _ legal) (c.the_last_entry_is_next.ensures.next _ _ legal) c.self.invariant.2),
    )
