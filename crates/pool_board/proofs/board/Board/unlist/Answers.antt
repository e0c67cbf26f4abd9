use Rattle.std.proofs.Common.{ap, ◌∙◌}
use Rattle.slot_tree.specs.Slots.{filled}
use Rattle.pool_board.specs.Members.{persons, ready_of, without}
use Rattle.pool_board.proofs.BoardLemmas.{is_board-out}
use Rattle.pool_board.proofs.SlotLemmas.{persons-cleared, ready_of-cleared}
use Rattle.pool_board.proofs.board.Board.unlist.Goals as goal

pub invariant_of-self : goal.invariant_of-self
invariant_of-self c = is_board-out _ _ _ c.in-Some.at.slot _ c.self.invariant c.in-Some.ensures.found c.clear.ensures

pub returns-in-Some-clause-order : goal.returns-in-Some-clause-order
returns-in-Some-clause-order c =
    ap (λ xs. persons (filled xs)) c.clear.ensures ∙ persons-cleared c.self.inside.tree c.in-Some.at.slot _ c.in-Some.ensures.found c.self.invariant.distinct
    ∙ ap (λ v. without c.args.person (persons v.members)) c.self.view_is

pub returns-in-Some-clause-ready : goal.returns-in-Some-clause-ready
returns-in-Some-clause-ready c other apart =
    ap (λ xs. ready_of other (filled xs)) c.clear.ensures ∙ ready_of-cleared c.self.inside.tree c.in-Some.at.slot _ other c.in-Some.ensures.found apart
    ∙ ap (λ v. ready_of other v.members) c.self.view_is
