use Rattle.desk_model.proofs.PlanLemmas.{vacancy_of-within}
use Rattle.desk_model.proofs.laws.editions.no_vacancy_plans_too_long.Goals as goal

pub returns-clause-ordinary : goal.returns-clause-ordinary
returns-clause-ordinary c h legal v job made = (vacancy_of-within h legal v job made).0

pub returns-clause-relief : goal.returns-clause-relief
returns-clause-relief c h legal v job made = (vacancy_of-within h legal v job made).1
