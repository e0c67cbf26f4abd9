use Rattle.std.proofs.Common.{sym, ap, ◌∙◌, arith}
use Rattle.std.specs.List.{find}
use Rattle.desk_model.specs.declared.link.Link.{Link}
use Rattle.desk_model.specs.boards.Boards.{links, chain}
use Rattle.desk_model.specs.offers.Bars.{is_free}
use Rattle.desk_answers.proofs.ChainLemmas.{find-chain-here, find-chain-past}
use Rattle.plain_core.proofs.kept.Kept.first_free_in.Goals as goal

pub returns-in-Some-clause-first : goal.returns-in-Some-clause-first
returns-in-Some-clause-first c h kept =
    let b = c.board-item.result in
    let free = λ (link : Link). is_free h c.args.moment c.args.job.now link.person in
    let found = ap (λ ps. find free (links b 1 ps)) (sym (c.deref.ensures.value ∙ c.fill_members.ensures.order h kept)) ∙ sym (c.first_free_on.ensures.first h kept) ∙ c.in-Some.is in
    sym (find-chain-here free h c.codes-board-items.result.now c.loop-board.board-index b c.in-Some.link c.loop-board-test.true c.board-item.is found)
    ∙ c.loop-board.invariant.first h kept
    ∙ ap (λ codes. find free (chain h codes)) (c.codes-board-items.ensures.value ∙ c.chain-chain.ensures)

pub loop-board-preserved : goal.loop-board-preserved
loop-board-preserved c = record {
  first = λ h kept.
      let b = c.board-item.result in
      let free = λ (link : Link). is_free h c.args.moment c.args.job.now link.person in
      let missed = ap (λ ps. find free (links b 1 ps)) (sym (c.deref.ensures.value ∙ c.fill_members.ensures.order h kept)) ∙ sym (c.first_free_on.ensures.first h kept) ∙ c.in_default.is in
      sym (find-chain-past free h c.codes-board-items.result.now c.loop-board.board-index b c.loop-board-test.true c.board-item.is missed)
      ∙ c.loop-board.invariant.first h kept;
  room = record {
    events = omega (arith, c.loop-board.invariant.room.events, c.first_free_on.ensures.room);
    members = omega (arith, c.loop-board.invariant.room.members, c.fill_members.ensures.room);
  };
}
