use Rattle.day_gen.proofs.SetUpLemmas.{length-set_up}
use Rattle.day_gen.proofs.numbers.the_numbers_of_a_day.Goals as goal

pub returns-clause-set_up : goal.returns-clause-set_up
returns-clause-set_up c = length-set_up
