use Rattle.desk_model.proofs.EditionLemmas.{held-none, bar_of-first, vacancy_of-ordinary, vacancy_answer-ordinary}
use Rattle.desk_model.proofs.laws.editions.the_first_edition_stays_as_it_was.Goals as goal

pub returns-clause-held : goal.returns-clause-held
returns-clause-held c h m p codes one = held-none h m p codes one

pub returns-clause-relief : goal.returns-clause-relief
returns-clause-relief c h legal one v job made = vacancy_of-ordinary h legal one v job made

pub returns-clause-bars : goal.returns-clause-bars
returns-clause-bars c h m p job person one = bar_of-first h m p job person one

pub returns-clause-vacancies : goal.returns-clause-vacancies
returns-clause-vacancies c h m job ordinary = vacancy_answer-ordinary h m job ordinary
