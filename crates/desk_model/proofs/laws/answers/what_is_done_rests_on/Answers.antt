use Rattle.desk_model.proofs.RestsOnLemmas.{done-rests}
use Rattle.desk_model.proofs.ListedLemmas.{offered-rests}
use Rattle.desk_model.proofs.laws.answers.what_is_done_rests_on.Goals as goal

pub returns-clause-done : goal.returns-clause-done
returns-clause-done c = done-rests

pub returns-clause-offered : goal.returns-clause-offered
returns-clause-offered c = offered-rests
