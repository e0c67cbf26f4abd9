use Rattle.std.proofs.Common.{sym, ap, subst, ◌∙◌}
use Rattle.slot_tree.specs.Search.{IsFilledAs}
use Rattle.pool_board.specs.Members.{persons}
use Rattle.pool_board.specs.Positions.{at_position}
use Rattle.pool_board.proofs.PositionLemmas.{position-person}
use Rattle.pool_board.proofs.board.Board.at.Goals as goal

pub returns-in-Some-at : goal.returns-in-Some-at
returns-in-Some-at c =
    let found = subst (λ n. IsFilledAs c.self.inside.tree n c.in-Some.slot) c.from.ensures c.in-Some.ensures in
    sym (position-person c.self.inside.tree c.args.position c.in-Some.slot c.in-Some-at.held found (sym c.at.ensures ∙ c.in-Some-at.is))
    ∙ ap (λ v. at_position (persons v.members) c.args.position) c.self.view_is
