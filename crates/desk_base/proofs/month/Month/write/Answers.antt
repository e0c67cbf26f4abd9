use Rattle.std.proofs.Common.{refl}
use Rattle.desk_base.specs.Month.{month_text}
use Rattle.desk_base.proofs.month.Month.write.Goals as goal

pub returns : goal.returns
unfolding month_text
returns c = rw (c.digits_of.ensures, c.digits_of-2.ensures, c.digits_of-3.ensures, c.self.view_is) refl
