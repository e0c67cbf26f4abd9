use Rattle.std.proofs.Common.{arith}
use Rattle.desk_base.proofs.MonthLemmas.{first_day-since_march}
use Rattle.desk_base.proofs.civil.first_day_of.Goals as goal

pub returns : goal.returns
returns c = omega (arith, c.from-months.ensures, first_day-since_march c.args.month)
