use Rattle.std.proofs.Common.{refl, arith}
use Rattle.day_gen.specs.Day.{day_after, generated_day}
use Rattle.day_gen.proofs.day_gen.DayGen.new.Goals as goal

pub invariant_of-result : goal.invariant_of-result
unfolding day_after generated_day
invariant_of-result c = record {
  some = c.requires.some;
  most = c.requires.most;
  given = omega arith;
  course = c.first.ensures;
  job = refl;
}
