use Rattle.std.proofs.Common.{ap, ◌∙◌, ◌++◌, ◌∷◌, []}
use Rattle.slot_tree.specs.declared.slot.Slot.{Slot}
use Rattle.pool_board.specs.Members.{persons, ready_of, without}
use Rattle.pool_board.proofs.BoardLemmas.{is_board-moved, persons-moved, ready_of-mover, ready_of-unmoved}
use Rattle.pool_board.proofs.board.Board.to_bottom_ready.Goals as goal

pub invariant_of-self : goal.invariant_of-self
invariant_of-self c =
    let x : Slot = record { person = c.args.person; ready = c.in-Some.at.ready } in
    is_board-moved c.self.inside.listed c.self.inside.tree c.move_last.new.tree c.in-Some.at.slot c.args.ready x c.self.invariant c.in-Some.ensures.found c.move_last.ensures.length c.move_last.ensures.order

pub returns-in-Some-clause-order : goal.returns-in-Some-clause-order
returns-in-Some-clause-order c =
    let x : Slot = record { person = c.args.person; ready = c.in-Some.at.ready } in
    persons-moved c.self.inside.tree _ c.in-Some.at.slot c.args.ready x c.in-Some.ensures.found c.self.invariant.distinct c.move_last.ensures.order
    ∙ ap (λ v. without c.args.person (persons v.members) ++ c.args.person ∷ []) c.self.view_is

pub returns-in-Some-clause-this : goal.returns-in-Some-clause-this
returns-in-Some-clause-this c =
    let x : Slot = record { person = c.args.person; ready = c.in-Some.at.ready } in
    ready_of-mover c.self.inside.tree _ c.in-Some.at.slot c.args.ready x c.in-Some.ensures.found c.self.invariant.distinct c.move_last.ensures.order

pub returns-in-Some-clause-others : goal.returns-in-Some-clause-others
returns-in-Some-clause-others c other apart =
    let x : Slot = record { person = c.args.person; ready = c.in-Some.at.ready } in
    ready_of-unmoved c.self.inside.tree _ c.in-Some.at.slot c.args.ready x other c.in-Some.ensures.found apart c.move_last.ensures.order ∙ ap (λ v. ready_of other v.members) c.self.view_is
