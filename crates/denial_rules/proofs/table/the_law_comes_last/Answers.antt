use Rattle.denial_rules.proofs.TableLemmas.{first_bar-law}
use Rattle.denial_rules.proofs.table.the_law_comes_last.Goals as goal

pub returns : goal.returns
returns c = first_bar-law
