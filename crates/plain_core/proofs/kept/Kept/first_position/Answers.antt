use Rattle.std.proofs.Common.{nat_eq, sym, ap, ◌∙◌, arith}
use Rattle.desk_model.specs.boards.Boards.{links, chain}
use Rattle.desk_model.specs.answers.ExplainAnswer.{position_in}
use Rattle.desk_answers.proofs.ChainLemmas.{find-chain-here, find-chain-past}
use Rattle.plain_core.proofs.kept.Kept.first_position.Goals as goal

pub returns-in-Some-clause-first : goal.returns-in-Some-clause-first
returns-in-Some-clause-first c h kept =
    let p = c.args.person in
    let b = c.board-item.result in
    let found = ap (λ ps. position_in (links b 1 ps) p) (sym (c.deref.ensures.value ∙ c.fill_members.ensures.order h kept)) ∙ sym c.position_on.ensures ∙ c.in-Some.is in
    sym (find-chain-here (λ link. nat_eq link.person p) h c.codes-board-items.result.now c.loop-board.board-index b c.in-Some.link c.loop-board-test.true c.board-item.is found)
    ∙ c.loop-board.invariant.first h kept
    ∙ ap (λ codes. position_in (chain h codes) p) c.codes-board-items.ensures.value

pub loop-board-preserved : goal.loop-board-preserved
loop-board-preserved c = record {
  first = λ h kept.
      let p = c.args.person in
      let b = c.board-item.result in
      let missed = ap (λ ps. position_in (links b 1 ps) p) (sym (c.deref.ensures.value ∙ c.fill_members.ensures.order h kept)) ∙ sym c.position_on.ensures ∙ c.in_default.is in
      sym (find-chain-past (λ link. nat_eq link.person p) h c.codes-board-items.result.now c.loop-board.board-index b c.loop-board-test.true c.board-item.is missed)
      ∙ c.loop-board.invariant.first h kept;
  room = record { events = c.loop-board.invariant.room.events; members = omega (arith, c.loop-board.invariant.room.members, c.fill_members.ensures.room) };
}
