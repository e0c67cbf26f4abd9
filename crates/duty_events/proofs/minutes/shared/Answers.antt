use Rattle.std.proofs.Common.{arith}
use Rattle.duty_events.proofs.CountLemmas.{minutes_where-within}
use Rattle.duty_events.proofs.minutes.shared.Goals as goal

pub returns-clause-counts : goal.returns-clause-counts
returns-clause-counts c =
    omega (arith, c.saturating_sub.ensures, c.max.ensures, c.min-end.ensures, c.from.ensures, minutes_where-within c.args.from c.args.to c.args.first c.args.many)
