use Rattle.std.proofs.Common.{ap, ◌∙◌, ◌++◌, ◌∷◌, []}
use Rattle.slot_tree.specs.declared.slot.Slot.{Slot}
use Rattle.pool_board.specs.Members.{persons, ready_of, without}
use Rattle.pool_board.proofs.BoardLemmas.{is_board-moved, persons-moved, ready_of-moved}
use Rattle.pool_board.proofs.board.Board.to_bottom.Goals as goal

pub invariant_of-self : goal.invariant_of-self
invariant_of-self c =
    let x : Slot = record { person = c.args.person; ready = c.in-Some.at.ready } in
    is_board-moved c.self.inside.listed c.self.inside.tree c.move_last.new.tree c.in-Some.at.slot c.in-Some.at.ready x c.self.invariant c.in-Some.ensures.found c.move_last.ensures.length c.move_last.ensures.order

pub returns-in-Some-clause-order : goal.returns-in-Some-clause-order
returns-in-Some-clause-order c =
    let x : Slot = record { person = c.args.person; ready = c.in-Some.at.ready } in
    persons-moved c.self.inside.tree _ c.in-Some.at.slot c.in-Some.at.ready x c.in-Some.ensures.found c.self.invariant.distinct c.move_last.ensures.order
    ∙ ap (λ v. without c.args.person (persons v.members) ++ c.args.person ∷ []) c.self.view_is

pub returns-in-Some-clause-ready : goal.returns-in-Some-clause-ready
returns-in-Some-clause-ready c who =
    let x : Slot = record { person = c.args.person; ready = c.in-Some.at.ready } in
    ready_of-moved c.self.inside.tree _ c.in-Some.at.slot x who c.in-Some.ensures.found c.self.invariant.distinct c.move_last.ensures.order
    ∙ ap (λ v. ready_of who v.members) c.self.view_is
