use Rattle.std.proofs.Common.{sym}
use Rattle.qualifications.proofs.QualsLemmas.{lowest_missing-none, lowest_missing-some}
use Rattle.qualifications.proofs.MissingLemmas.{missing-none, missing-most}
use Rattle.qualifications.proofs.quals.Quals.lowest_missing.Goals as goal

pub returns-then-missing-eq0-clause-value : goal.returns-then-missing-eq0-clause-value
returns-then-missing-eq0-clause-value c =
    rw (← c.self.view_is, ← c.asked.view_is) (sym (lowest_missing-none c.asked.inside.0 c.self.inside.0 c.self.invariant c.if-missing-eq0.true))

pub returns-then-missing-eq0-clause-none : goal.returns-then-missing-eq0-clause-none
returns-then-missing-eq0-clause-none c = missing-none _ c.args.self c.args.asked (returns-then-missing-eq0-clause-value c)

pub returns-else-missing-eq0-clause-value : goal.returns-else-missing-eq0-clause-value
returns-else-missing-eq0-clause-value c =
    rw (← c.self.view_is, ← c.asked.view_is) (sym (lowest_missing-some c.asked.inside.0 c.self.inside.0 c.asked.invariant c.self.invariant c.if-missing-eq0.false))

pub returns-else-missing-eq0-clause-none : goal.returns-else-missing-eq0-clause-none
returns-else-missing-eq0-clause-none c = missing-none _ c.args.self c.args.asked (returns-else-missing-eq0-clause-value c)

pub returns-else-missing-eq0-clause-most : goal.returns-else-missing-eq0-clause-most
returns-else-missing-eq0-clause-most c = missing-most _ c.args.self c.args.asked (returns-else-missing-eq0-clause-value c)
