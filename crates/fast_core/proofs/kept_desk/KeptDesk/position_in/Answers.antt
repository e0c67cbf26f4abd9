use Rattle.std.proofs.Common.{nat_eq, sym, ap, ◌∙◌}
use Rattle.desk_model.specs.boards.Boards.{chain}
use Rattle.desk_model.specs.answers.ExplainAnswer.{position_in}
use Rattle.desk_answers.proofs.ChainLemmas.{find-chain-here, find-chain-past}
use Rattle.fast_core.proofs.kept_desk.KeptDesk.position_in.Goals as goal

pub returns-in-Some : goal.returns-in-Some
returns-in-Some c h tells =
    let p = c.args.person in
    sym (find-chain-here (λ link. nat_eq link.person p) h c.codes-board-items.result.now c.loop-board.board-index c.board-item.result c.in-Some.index c.loop-board-test.true c.board-item.is
    (sym (c.position_on.ensures h tells) ∙ c.in-Some.is))
    ∙ c.loop-board.invariant h tells
    ∙ ap (λ codes. position_in (chain h codes) p) c.codes-board-items.ensures.value

pub loop-board-preserved : goal.loop-board-preserved
loop-board-preserved c h tells =
    sym (find-chain-past (λ link. nat_eq link.person c.args.person) h c.codes-board-items.result.now c.loop-board.board-index c.board-item.result c.loop-board-test.true c.board-item.is
    (sym (c.position_on.ensures h tells) ∙ c.in_default.is))
    ∙ c.loop-board.invariant h tells
