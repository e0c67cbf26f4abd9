use Rattle.month_hours.specs.declared.limit.Limit.TheVariants.{Hours}
use Rattle.month_hours.specs.Plan.{plan_of}
use Rattle.month_hours.proofs.OverLemmas.{first_over-tells, first_over-month}
use Rattle.month_hours.proofs.passed.over_month.Goals as goal

pub returns-clause-first : goal.returns-clause-first
returns-clause-first c = rw c.first_over.ensures (first_over-tells Hours c.args.events.now (plan_of c.args.report c.args.duty c.args.limbo))

pub returns-clause-months : goal.returns-clause-months
returns-clause-months c = rw c.first_over.ensures (first_over-month Hours c.args.events.now (plan_of c.args.report c.args.duty c.args.limbo))
