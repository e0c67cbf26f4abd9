use Rattle.std.proofs.Common.{◌+◌, length, take, sym, ap, ◌∙◌, arith}
use Rattle.slot_tree.specs.Slots.{filled}
use Rattle.pool_board.specs.Members.{persons, is_listed}
use Rattle.pool_board.specs.Positions.{at_position}
use Rattle.pool_board.proofs.BoardLemmas.{before-few}
use Rattle.pool_board.proofs.SlotLemmas.{is_listed-there}
use Rattle.pool_board.proofs.PositionLemmas.{at_position-next, persons-there}
use Rattle.pool_board.proofs.board.Board.position.Goals as goal

pub overflow_cast-result : goal.overflow_cast-result
overflow_cast-result c = omega (arith, c.before-2.ensures, before-few c.self.inside.tree c.in_ok-at.at.slot, c.self.invariant.count, c.self.invariant.most)

pub overflow_add-result : goal.overflow_add-result
overflow_add-result c = omega (arith, c.before-2.ensures, before-few c.self.inside.tree c.in_ok-at.at.slot, c.self.invariant.count, c.self.invariant.most)

pub returns-clause-at : goal.returns-clause-at
returns-clause-at c =
    let slots = c.self.inside.tree in
    ap (λ v. at_position (persons v.members) (c.before-2.result + 1)) (sym c.self.view_is) ∙ ap (λ n. at_position (persons (filled slots)) (n + 1)) c.before-2.ensures
    ∙ at_position-next (persons (filled slots)) (length (filled (take c.in_ok-at.at.slot slots))) ∙ persons-there slots c.in_ok-at.at.slot _ c.in_ok-at.ensures.found

pub returns-clause-listed : goal.returns-clause-listed
returns-clause-listed c =
    sym (is_listed-there c.self.inside.tree c.in_ok-at.at.slot _ c.in_ok-at.ensures.found) ∙ ap (λ v. is_listed c.args.person v.members) c.self.view_is
