use Rattle.std.proofs.Common.{arith}
use Rattle.desk_base.proofs.MonthLemmas.{first_day_mono, first_day-2480}
use Rattle.desk_base.proofs.month.Month.first_day.Goals as goal

pub new-requires : goal.new-requires
new-requires c =
    omega (arith, c.first_day_of.ensures, c.self.view_is, first_day_mono c.self.inside.0 6124 c.self.invariant, first_day-2480)
