use Rattle.std.proofs.Common.{nat_eq, ap, sym, ◌∙◌, subst}
use Rattle.indexmap.specs.IndexMap.{get, keys}
use Rattle.desk_model.specs.histories.History.{said}
use Rattle.desk_model.specs.histories.Legal.{IsLegal}
use Rattle.board_window.specs.Becomes.{declines_from}
use Rattle.board_window.specs.Lists.{head_of}
use Rattle.board_window.specs.Shows.{AreOffers}
use Rattle.board_window.specs.Walls.{FrontValue, history_in, longer_by}
use Rattle.board_window.proofs.wall_list.WallList.give.Goals as goal

pub invariant_of-self-2 : goal.invariant_of-self-2
invariant_of-self-2 c =
    let e = c.args.entry.now in
    let h = history_in c.self.inside.front in
    let kept = c.keep.new.self.boards in
    let legal : IsLegal (history_in (longer_by c.self.inside.front e)) = subst (λ (f : FrontValue). IsLegal (history_in (longer_by f e))) (sym c.self.view_is) c.requires.legal in
    let are = c.keep.ensures h (c.the_last_entry_is_next.ensures.legal h e legal) (c.the_last_entry_is_next.ensures.next h e legal) c.self.invariant.1 in (
      c.self.invariant.0 ∙ ap (λ f. head_of f.wall.logbook.book) (sym c.if-not-add.ensures),
      subst (λ (f : FrontValue). AreOffers (get nat_eq kept) (keys kept) (history_in f)) (sym c.if-not-add.ensures) are,
    )

pub returns-clause-change : goal.returns-clause-change
returns-clause-change c =
    let e = c.args.entry.now in
    let h = history_in c.self.inside.front in
    let legal : IsLegal (history_in (longer_by c.self.inside.front e)) = subst (λ (f : FrontValue). IsLegal (history_in (longer_by f e))) (sym c.self.view_is) c.requires.legal in
    record {
      front = c.again.ensures ∙ (c.if-not-add.ensures ∙ ap (λ f. longer_by f e) c.self.view_is);
      from = c.declined-from.ensures h (c.the_last_entry_is_next.ensures.legal h e legal) c.self.invariant.1 ∙ ap (λ f. said (declines_from (history_in f)) e) c.self.view_is;
    }
