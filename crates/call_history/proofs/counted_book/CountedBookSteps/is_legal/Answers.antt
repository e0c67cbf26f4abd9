use Rattle.std.proofs.Math.Logic.{∥∥₁_elim}
use Rattle.call_history.proofs.counted_book.CountedBookSteps.is_legal.Goals as goal

pub returns-clause-legal : goal.returns-clause-legal
returns-clause-legal g c = ∥∥₁_elim c.args.self.now.stands (c.a_history_is_legal_in_one_way.ensures _) (λ stands. g.met.C.DeskCore.legal _ _ stands)
