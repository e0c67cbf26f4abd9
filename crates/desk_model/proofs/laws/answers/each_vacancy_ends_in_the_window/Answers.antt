use Rattle.desk_model.proofs.PlanLemmas.{vacancy_of-ends}
use Rattle.desk_model.proofs.laws.answers.each_vacancy_ends_in_the_window.Goals as goal

pub returns : goal.returns
returns c = vacancy_of-ends
