use Rattle.std.proofs.Common.{◌≡◌, drop}
use Rattle.desk_model.specs.histories.History.{History}
use Rattle.desk_model.specs.answers.VacancyAnswer.{unknown_in}
use Rattle.desk_answers.proofs.vacancy_answer.unknown_in.Given as goal

abbrev pub invariant-loop-code : goal.invariant-loop-code
invariant-loop-code g l = (h : History) → g.R.Reads.tells l.reads h → unknown_in h (drop l.code-index l.codes) ≡ unknown_in h l.codes
