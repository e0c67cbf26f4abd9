use Rattle.std.proofs.Common.{◌+◌, None, length, take, sym, subst, arith}
use Rattle.slot_tree.specs.Slots.{filled}
use Rattle.slot_tree.specs.Search.{IsFilledAs}
use Rattle.pool_board.specs.Positions.{IsFirstReadyPosition, FindsReadyPosition}
use Rattle.pool_board.proofs.BoardLemmas.{before-few}
use Rattle.pool_board.proofs.PositionLemmas.{ready-none, ready-found}
use Rattle.pool_board.proofs.board.Board.ready_from.Goals as goal

pub returns-in_default-first_from-clause-found : goal.returns-in_default-first_from-clause-found
returns-in_default-first_from-clause-found g c =
    let found = subst (λ n. IsFilledAs c.self.inside.tree n c.in-Some.slot) c.from.ensures c.in-Some.ensures in
    subst (λ v. FindsReadyPosition v.members c.args.position c.args.m None) c.self.view_is
    (ready-none c.self.inside.tree c.args.position c.args.m c.in-Some.slot c.requires found c.in_default-first_from.ensures.found)

pub returns-in_default-first_from-clause-cost : goal.returns-in_default-first_from-clause-cost
returns-in_default-first_from-clause-cost g c = c.in_default-first_from.ensures.cost 10 c.self.invariant.long

pub overflow_cast-result : goal.overflow_cast-result
overflow_cast-result g c = omega (arith, c.before-2.ensures, before-few c.self.inside.tree c.in-Some-first_from.at, c.self.invariant.count, c.self.invariant.most)

pub overflow_add-result : goal.overflow_add-result
overflow_add-result g c = omega (arith, c.before-2.ensures, before-few c.self.inside.tree c.in-Some-first_from.at, c.self.invariant.count, c.self.invariant.most)

pub returns-clause-found : goal.returns-clause-found
returns-clause-found g c =
    let found = subst (λ n. IsFilledAs c.self.inside.tree n c.in-Some.slot) c.from.ensures c.in-Some.ensures in
    subst (λ n. IsFirstReadyPosition c.args.self.now.members c.args.position c.args.m (n + 1)) (sym c.before-2.ensures)
    (subst (λ v. IsFirstReadyPosition v.members c.args.position c.args.m (length (filled (take c.in-Some-first_from.at c.self.inside.tree)) + 1)) c.self.view_is
    (ready-found c.self.inside.tree c.args.position c.args.m c.in-Some.slot c.in-Some-first_from.at c.requires found c.in-Some-first_from.ensures.found))

pub returns-clause-cost : goal.returns-clause-cost
returns-clause-cost g c = c.in-Some-first_from.ensures.cost 10 c.self.invariant.long
