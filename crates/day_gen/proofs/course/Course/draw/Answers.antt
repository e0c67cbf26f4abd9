use Rattle.std.proofs.Common.{◌/◌, ◌%◌, ap}
use Rattle.day_gen.specs.Draws.{drawn}
use Rattle.day_gen.proofs.course.Course.draw.Goals as goal

pub returns-clause-value : goal.returns-clause-value
unfolding drawn
returns-clause-value c = ap (λ n. n / 8589934592 % c.args.count) c.next_number-self.ensures
