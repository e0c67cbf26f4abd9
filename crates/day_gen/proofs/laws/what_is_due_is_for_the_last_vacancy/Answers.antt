use Rattle.day_gen.proofs.NextLemmas.{due-last}
use Rattle.day_gen.proofs.laws.what_is_due_is_for_the_last_vacancy.Goals as goal

pub returns : goal.returns
returns c = due-last
