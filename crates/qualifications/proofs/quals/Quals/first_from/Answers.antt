use Rattle.std.proofs.Common.{arith}
use Rattle.qualifications.proofs.NumbersLemmas.{lowest_from, none_from}
use Rattle.qualifications.proofs.quals.Quals.first_from.Goals as goal

pub returns-then-left-eq0-clause-none : goal.returns-then-left-eq0-clause-none
returns-then-left-eq0-clause-none c =
    rw (← c.self.view_is) (none_from c.self.inside.0 c.args.from c.if-left-eq0.true)

pub returns-else-left-eq0-clause-some : goal.returns-else-left-eq0-clause-some
returns-else-left-eq0-clause-some c =
    let lowest = lowest_from c.self.inside.0 c.args.from c.self.invariant c.if-left-eq0.false in
    rw (← c.self.view_is) (omega arith, lowest.0, lowest.1, lowest.2)
