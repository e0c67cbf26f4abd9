use Rattle.std.proofs.Common.{sym, ◌∙◌, arith}
use Rattle.desk_model.specs.declared.link.Link.{Link}
use Rattle.desk_model.specs.offers.Bars.{is_free}
use Rattle.plain_core.proofs.MemberLemmas.{find-links-here, find-links-past}
use Rattle.plain_core.proofs.kept.Kept.first_free_on.Goals as goal

pub returns-then-is_free-clause-first : goal.returns-then-is_free-clause-first
returns-then-is_free-clause-first c h kept =
    sym (find-links-here (λ (link : Link). is_free h c.args.moment c.args.job.now link.person) c.args.board.now c.loop-person.position c.args.members.now c.loop-person.person-index c.person-item.result c.loop-person-test.true c.person-item.is (sym (c.is_free.ensures.free h kept) ∙ c.if-is_free.true))
    ∙ c.loop-person.invariant.first h kept

pub loop-person-preserved : goal.loop-person-preserved
loop-person-preserved c = record {
  position = omega (arith, c.loop-person.invariant.position);
  first = λ h kept.
      sym (find-links-past (λ (link : Link). is_free h c.args.moment c.args.job.now link.person) c.args.board.now c.loop-person.position c.args.members.now c.loop-person.person-index c.person-item.result c.loop-person-test.true c.person-item.is (sym (c.is_free.ensures.free h kept) ∙ c.if-is_free.false))
      ∙ c.loop-person.invariant.first h kept;
  room = c.is_free.ensures.room ∙ c.loop-person.invariant.room;
}
