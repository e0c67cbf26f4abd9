use Rattle.line_writer.proofs.TallyLemmas.{count-all}
use Rattle.line_writer.proofs.tally.a_tally_adds_up.Goals as goal

pub returns : goal.returns
returns c = count-all
