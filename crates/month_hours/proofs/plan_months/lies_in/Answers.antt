use Rattle.std.proofs.Common.{◌≤◌, ◌+◌, arith}
use Rattle.std.proofs.lemmas.Bool.Decides.{nat_tests}
use Rattle.desk_base.proofs.MonthLemmas.{first_day-next, length_of_bounds}
use Rattle.month_hours.proofs.plan_months.lies_in.Goals as goal

pub returns-then-number-end-clause-over : goal.returns-then-number-end-clause-over
returns-then-number-end-clause-over c = λ low.
    let fits : c.end-end.result ≤ c.number-then-number-end.result + 40_320 = grind (arith, nat_tests, low) in
    omega (arith, fits, c.end-end.ensures, c.number-then-number-end.ensures.value, c.first.ensures, first_day-next c.args.first, length_of_bounds c.args.first)
