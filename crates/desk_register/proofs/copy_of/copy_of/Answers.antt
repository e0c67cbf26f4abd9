use Rattle.std.proofs.Common.{ap, ◌∙◌, length, arith}
use Rattle.desk_register.proofs.CopyLemmas.{all-shown, all-copied}
use Rattle.desk_register.proofs.copy_of.copy_of.Goals as goal

-- `ran.0` is the iterator over the map, `ran.1` what it showed, and `ran.2` that it shows the map's entries, whose keys are apart, in their order
pub returns-clause-entries : goal.returns-clause-entries
returns-clause-entries g c =
    let ran = c.in_ok-extend.ensures.ran in
    all-copied g.K.PartialEq.eq g.met.K.Eq.laws c.args.map.now.entries c.in_ok-copy.copy.entries c.extend.new.self.entries ran.1
    (all-shown ran.0 ran.1 ran.2.2 ran.4 ∙ ran.2.0) ran.2.4 c.in_ok-copy.ensures.empty ran.3.0

pub returns-clause-room : goal.returns-clause-room
returns-clause-room g c =
    let ran = c.in_ok-extend.ensures.ran in
    omega (arith, ran.3.2.0, ap length (all-shown ran.0 ran.1 ran.2.2 ran.4 ∙ ran.2.0), ap length (returns-clause-entries g c), c.in_ok-copy.ensures.spare)
