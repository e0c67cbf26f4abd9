use Rattle.std.proofs.Common.{sym, arith}
use Rattle.desk_base.proofs.MonthLemmas.{month_of_day-unique}
use Rattle.desk_base.specs.Day.{day_of}
use Rattle.desk_base.proofs.month.Month.of_from.Goals as goal

pub returns-then-number-from-clause-value : goal.returns-then-number-from-clause-value
returns-then-number-from-clause-value c =
    sym (month_of_day-unique (day_of c.args.minute) c.args.from record {
      begun = omega (arith, c.requires);
      not_over = omega (arith, c.if-number-from.true, c.number.ensures.value, c.number-2.ensures.value, c.first.ensures, c.minutes.ensures.next);
    })
