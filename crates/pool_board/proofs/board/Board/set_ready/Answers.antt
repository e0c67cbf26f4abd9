use Rattle.std.proofs.Common.{ap, ◌∙◌}
use Rattle.slot_tree.specs.Slots.{filled}
use Rattle.pool_board.specs.Members.{persons, ready_of}
use Rattle.pool_board.proofs.BoardLemmas.{is_board-ready}
use Rattle.pool_board.proofs.SlotLemmas.{persons-ready, ready_of-this, ready_of-others}
use Rattle.pool_board.proofs.board.Board.set_ready.Goals as goal

pub invariant_of-self : goal.invariant_of-self
invariant_of-self c = is_board-ready _ _ _ c.in-Some.at.slot _ c.self.invariant c.set.ensures

pub returns-in-Some-clause-order : goal.returns-in-Some-clause-order
returns-in-Some-clause-order c =
    ap (λ xs. persons (filled xs)) c.set.ensures ∙ persons-ready c.self.inside.tree c.in-Some.at.slot c.args.ready ∙ ap (λ v. persons v.members) c.self.view_is

pub returns-in-Some-clause-this : goal.returns-in-Some-clause-this
returns-in-Some-clause-this c =
    ap (λ xs. ready_of c.args.person (filled xs)) c.set.ensures
    ∙ ready_of-this c.self.inside.tree c.in-Some.at.slot c.args.ready _ c.in-Some.ensures.found c.self.invariant.distinct

pub returns-in-Some-clause-others : goal.returns-in-Some-clause-others
returns-in-Some-clause-others c other apart =
    ap (λ xs. ready_of other (filled xs)) c.set.ensures
    ∙ ready_of-others c.self.inside.tree c.in-Some.at.slot c.args.ready _ other c.in-Some.ensures.found apart ∙ ap (λ v. ready_of other v.members) c.self.view_is
