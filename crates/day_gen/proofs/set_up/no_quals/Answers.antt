use Rattle.std.proofs.Common.{◌≡◌, Some, refl, arith}
use Rattle.qualifications.specs.Quals.{quals_text, numbers_below}
use Rattle.day_gen.proofs.set_up.no_quals.Goals as goal

pub unwrap-requires : goal.unwrap-requires
unfolding quals_text numbers_below
unwrap-requires c = let is : c.read.result ≡ Some 0 = c.read.ensures.only 0 (omega arith) refl in rw is refl

pub returns : goal.returns
unfolding quals_text numbers_below
returns c = let is : c.read.result ≡ Some 0 = c.read.ensures.only 0 (omega arith) refl in grind (arith, is, c.unwrap.ensures)
