use Rattle.desk_base.proofs.WindowLemmas.{in_years-Holds}
use Rattle.desk_model.proofs.opening.Opening.start.Goals as goal

pub returns-clause-in_years : goal.returns-clause-in_years
returns-clause-in_years c =
    let o = c.self.inside in
    in_years-Holds o.window o.start c.self.invariant.window c.self.invariant.start
