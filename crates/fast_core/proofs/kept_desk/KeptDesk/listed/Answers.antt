use Rattle.std.proofs.Common.{◌≤◌, length, ap, arith}
use Rattle.desk_model.specs.boards.Boards.{chain}
use Rattle.desk_answers.proofs.ChainLemmas.{length-chain-next}
use Rattle.fast_core.proofs.kept_desk.KeptDesk.listed.Goals as goal

pub loop-board-preserved : goal.loop-board-preserved
loop-board-preserved c h tells =
    let codes = c.codes-board-items.result.now in
    let most : length (chain h codes) ≤ 2_000 = c.boards_and_chains_are_bounded.ensures.chains h codes tells.legal (omega (arith, c.codes-board-items.ensures.range.most, ap length c.codes-board-items.ensures.value)) in
    omega (
      arith,
      most,
      c.loop-board.invariant h tells,
      c.member_count.ensures h tells,
      c.saturating_add-count.ensures,
      length-chain-next h codes c.loop-board.board-index c.board-item.result c.loop-board-test.true c.board-item.is,
    )
