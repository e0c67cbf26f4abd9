use Rattle.std.proofs.Common.{sym, subst, arith}
use Rattle.std.proofs.lemmas.List.{take_all}
use Rattle.day_replay.specs.Replay.{goes_on}
use Rattle.day_replay.proofs.HistoryLemmas.{goes_on-none, goes_on-next}
use Rattle.day_replay.proofs.day_when.step_each.Goals as goal

pub loop-stated-init : goal.loop-stated-init
loop-stated-init g c = record {
  left = omega (arith, c.requires);
  stands = λ h stands. subst (g.C.DeskCore.stands c.args.core.now) (sym (goes_on-none h)) stands;
}

pub loop-stated-preserved : goal.loop-stated-preserved
loop-stated-preserved g c = record {
  left = omega (arith, c.step.ensures.room, c.loop-stated.invariant.left);
  stands = λ h stands.
      let before = c.loop-stated.invariant.stands h stands in
      let next = goes_on-next h c.args.commands.now c.loop-stated.stated-index c.stated-item.result c.step.result
      c.loop-stated-test.true c.stated-item.is (c.step.ensures.answer _ before) in
      subst (g.C.DeskCore.stands c.step.new.self) next (c.step.ensures.stands _ before);
}

pub returns : goal.returns
returns g c = λ h stands.
    subst (λ cs. g.C.DeskCore.stands c.loop-stated.core (goes_on h cs)) (take_all c.loop-stated.stated-index c.args.commands.now (omega (arith, c.loop-stated-test.false)))
    (c.loop-stated.invariant.stands h stands)
