use Rattle.desk_model.proofs.FewLemmas.{persons-few, boards-few, vacancies-few}
use Rattle.desk_model.proofs.laws.legal.persons_boards_and_vacancies_are_bounded.Goals as goal

pub returns : goal.returns
returns c = record { persons = persons-few; boards = boards-few; vacancies = vacancies-few }
