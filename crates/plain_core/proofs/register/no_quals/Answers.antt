use Rattle.std.proofs.Common.{rules, codes, ◌≡◌, refl, arith}
use Rattle.qualifications.specs.Quals.{numbers_below, quals_text}
use Rattle.plain_core.proofs.register.no_quals.Goals as goal

none : codes "-" ≡ quals_text 0
unfolding quals_text numbers_below
none = refl

pub unwrap-requires : goal.unwrap-requires
unwrap-requires c = let read = c.read.ensures.only 0 (omega arith) none in search rules

pub returns : goal.returns
returns c = let read = c.read.ensures.only 0 (omega arith) none in search rules
