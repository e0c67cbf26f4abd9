use Rattle.std.proofs.Common.{not, sym, ap, ◌∙◌}
use Rattle.desk_model.specs.histories.Register.{board_of}
use Rattle.desk_model.specs.answers.VacancyAnswer.{is_extra}
use Rattle.desk_answers.proofs.FindLemmas.{find-here, find-past}
use Rattle.desk_answers.proofs.vacancy_answer.first_not_extra.Goals as goal

pub returns-then-not-is_extra : goal.returns-then-not-is_extra
returns-then-not-is_extra g c h tells =
    sym (find-here (λ b. not (is_extra (board_of h b))) c.args.codes.now c.loop-code.code-index c.code-item.result c.loop-code-test.true c.code-item.is (ap not (sym (c.is_extra.ensures h tells) ∙ c.if-not-is_extra.true)))
    ∙ c.loop-code.invariant h tells

pub loop-code-preserved : goal.loop-code-preserved
loop-code-preserved g c h tells =
    sym (find-past (λ b. not (is_extra (board_of h b))) c.args.codes.now c.loop-code.code-index c.code-item.result c.loop-code-test.true c.code-item.is (ap not (sym (c.is_extra.ensures h tells) ∙ c.if-not-is_extra.false)))
    ∙ c.loop-code.invariant h tells
