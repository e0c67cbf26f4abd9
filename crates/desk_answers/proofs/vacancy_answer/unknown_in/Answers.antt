use Rattle.std.proofs.Common.{is_none, not, sym, ap, ◌∙◌}
use Rattle.desk_model.specs.histories.Register.{board_of}
use Rattle.desk_answers.proofs.FindLemmas.{find-here, find-past}
use Rattle.desk_answers.proofs.vacancy_answer.unknown_in.Goals as goal

pub returns-then-is_none : goal.returns-then-is_none
returns-then-is_none g c h tells =
    sym (find-here (λ b. is_none (board_of h b)) c.args.codes.now c.loop-code.code-index c.code-item.result c.loop-code-test.true c.code-item.is (ap is_none (sym (c.board.ensures h tells)) ∙ ap not (c.if-is_none.ensures {u = tt})))
    ∙ c.loop-code.invariant h tells

pub loop-code-preserved : goal.loop-code-preserved
loop-code-preserved g c h tells =
    sym (find-past (λ b. is_none (board_of h b)) c.args.codes.now c.loop-code.code-index c.code-item.result c.loop-code-test.true c.code-item.is (ap is_none (sym (c.board.ensures h tells)) ∙ ap not (c.if-is_none.ensures {u = tt})))
    ∙ c.loop-code.invariant h tells
