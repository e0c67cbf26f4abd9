use Rattle.desk_model.proofs.FrontLemmas.{legal-take, legal-prefix}
use Rattle.desk_model.proofs.laws.legal.the_first_entries_are_legal.Goals as goal

pub returns-clause-first : goal.returns-clause-first
returns-clause-first c = legal-take

pub returns-clause-begins : goal.returns-clause-begins
returns-clause-begins c = legal-prefix
