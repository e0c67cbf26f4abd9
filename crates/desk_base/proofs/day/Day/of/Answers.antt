use Rattle.std.proofs.Common.{arith}
use Rattle.desk_base.proofs.CivilLemmas.{is_dated}
use Rattle.desk_base.proofs.day.Day.of.Goals as goal

pub returns-clause-dated : goal.returns-clause-dated
returns-clause-dated c = is_dated c.args.minute (omega (arith, c.number.ensures.value, c.number.ensures.range))
