use Rattle.std.proofs.Common.{arith}
use Rattle.std.proofs.lemmas.Grind.{common_steps}
use Rattle.line_writer.specs.Tally.{tally_text}
use Rattle.line_writer.proofs.tally.Tally.write.Goals as goal

pub returns : goal.returns
unfolding tally_text
returns c = λ h counts.
    grind (arith, common_steps, counts.commands, counts.done, counts.offered, counts.unfilled, counts.denied, counts.told, counts.refused, counts.moment)
