use Rattle.std.proofs.Common.{◌≡◌, not, drop}
use Rattle.std.specs.List.{find}
use Rattle.desk_model.specs.histories.History.{History}
use Rattle.desk_model.specs.histories.Register.{board_of}
use Rattle.desk_model.specs.answers.VacancyAnswer.{is_extra}
use Rattle.desk_answers.proofs.vacancy_answer.first_not_extra.Given as goal

abbrev pub invariant-loop-code : goal.invariant-loop-code
invariant-loop-code g l =
    (h : History) → g.R.Reads.tells l.reads h → find (λ b. not (is_extra (board_of h b))) (drop l.code-index l.codes) ≡ find (λ b. not (is_extra (board_of h b))) l.codes
