use Rattle.std.proofs.Common.{sym, ap, ◌∙◌, arith}
use Rattle.std.specs.List.{find}
use Rattle.std.proofs.Math.ListN.{drop_of_length-le}
use Rattle.desk_model.specs.boards.Boards.{chain}
use Rattle.desk_model.specs.offers.Bars.{is_free}
use Rattle.desk_answers.proofs.ChainLemmas.{find-chain-here, find-chain-past}
use Rattle.fast_core.specs.Search.{chain_steps}
use Rattle.fast_core.proofs.SearchLemmas.{chain_steps-next, searched-more}
use Rattle.fast_core.proofs.kept_desk.KeptDesk.first_free.Goals as goal

pub returns-in-Some-clause-first : goal.returns-in-Some-clause-first
returns-in-Some-clause-first g c h tells asked =
    let m = c.args.asked.now.moment in
    let job = c.args.asked.now.job.now in
    sym (find-chain-here (λ link. is_free h m job link.person) h c.codes-board-items.result.now c.loop-board.board-index c.board-item.result c.in-Some.link c.loop-board-test.true c.board-item.is
    (sym (c.first_on.ensures.first h tells asked (c.loop-board.invariant.searched h tells asked)) ∙ c.in-Some.is))
    ∙ c.loop-board.invariant.first h tells asked
    ∙ ap (λ codes. find (λ link. is_free h m job link.person) (chain h codes)) (c.codes-board-items.ensures.value ∙ c.chain-chain.ensures)

pub returns-in-Some-clause-steps : goal.returns-in-Some-clause-steps
returns-in-Some-clause-steps g c h tells asked =
    let m = c.args.asked.now.moment in
    let job = c.args.asked.now.job.now in
    omega (
      arith,
      c.loop-board.invariant.steps h tells asked,
      c.first_on.ensures.steps h tells asked (c.loop-board.invariant.searched h tells asked),
      chain_steps-next h m job c.codes-board-items.result.now c.loop-board.board-index c.board-item.result c.loop-board-test.true c.board-item.is,
      ap (chain_steps h m job) (c.codes-board-items.ensures.value ∙ c.chain-chain.ensures),
    )

pub loop-board-preserved : goal.loop-board-preserved
loop-board-preserved g c =
    let m = c.args.asked.now.moment in
    let job = c.args.asked.now.job.now in
    record {
      searched = λ h tells asked.
          searched-more h m job c.loop-board.searched c.with_board-searched.result c.board-item.result (λ p. (c.order_is_by_rank.ensures.by_rank h c.board-item.result).those p)
          c.with_board-searched.type_inv (c.loop-board.invariant.searched h tells asked) (c.with_board-searched.ensures h tells)
          (sym c.in_default.is ∙ c.first_on.ensures.first h tells asked (c.loop-board.invariant.searched h tells asked));
      first = λ h tells asked.
          sym (find-chain-past (λ link. is_free h m job link.person) h c.codes-board-items.result.now c.loop-board.board-index c.board-item.result c.loop-board-test.true c.board-item.is
          (sym (c.first_on.ensures.first h tells asked (c.loop-board.invariant.searched h tells asked)) ∙ c.in_default.is))
          ∙ c.loop-board.invariant.first h tells asked;
      steps = λ h tells asked. omega (
        arith,
        c.loop-board.invariant.steps h tells asked,
        c.first_on.ensures.steps h tells asked (c.loop-board.invariant.searched h tells asked),
        chain_steps-next h m job c.codes-board-items.result.now c.loop-board.board-index c.board-item.result c.loop-board-test.true c.board-item.is,
      );
    }

pub returns-clause-first : goal.returns-clause-first
returns-clause-first g c h tells asked =
    let m = c.args.asked.now.moment in
    let job = c.args.asked.now.job.now in
    sym (ap (λ codes. find (λ link. is_free h m job link.person) (chain h codes)) (drop_of_length-le c.codes-board-items.result.now c.loop-board-test.false))
    ∙ c.loop-board.invariant.first h tells asked
    ∙ ap (λ codes. find (λ link. is_free h m job link.person) (chain h codes)) (c.codes-board-items.ensures.value ∙ c.chain-chain.ensures)
