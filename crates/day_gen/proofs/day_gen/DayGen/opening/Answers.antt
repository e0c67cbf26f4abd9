use Rattle.std.proofs.Common.{arith}
use Rattle.day_gen.proofs.OpeningLemmas.{opening_valid}
use Rattle.day_gen.proofs.day_gen.DayGen.opening.Goals as goal

pub unwrap-requires : goal.unwrap-requires
unwrap-requires c = grind (arith, opening_valid c.self.inside.edition, c.new-3.ensures)
