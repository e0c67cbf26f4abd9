use Rattle.law_bars.proofs.RangeLemmas.{law_bar-fits}
use Rattle.law_bars.proofs.laws.what_a_bar_of_the_law_keeps.Goals as goal

pub returns : goal.returns
returns c = law_bar-fits
