use Rattle.std.proofs.Common.{subst}
use Rattle.std.proofs.Math.Logic.{∥∥₁_elim}
use Rattle.desk_model.specs.histories.Legal.{IsLegal}
use Rattle.board_window.specs.Walls.{FrontValue, history_in}
use Rattle.board_window.proofs.front.Front.count.Goals as goal

pub returns-clause-legal : goal.returns-clause-legal
returns-clause-legal c =
    subst (λ (f : FrontValue). IsLegal (history_in f)) c.self.view_is
    (∥∥₁_elim c.self.invariant.1 (c.a_history_is_legal_in_one_way.ensures _) (λ legal. legal))
