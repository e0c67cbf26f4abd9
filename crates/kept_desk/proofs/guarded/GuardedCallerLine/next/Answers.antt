use Rattle.std.proofs.Common.{◌∙◌, refl, arith}
use Rattle.kept_desk.specs.Guarded.{PassesOver}
use Rattle.kept_desk.proofs.guarded.GuardedCallerLine.next.Goals as goal

pub loop-init : goal.loop-init
loop-init g c = record { ahead = refl; faults = refl; asked = omega arith; over = PassesOver.NoLine }

pub loop-preserved : goal.loop-preserved
loop-preserved g c = record {
  ahead = c.ask.ensures.same ∙ c.loop.invariant.ahead;
  faults = c.in_default.ensures.no_fault (λ is. cc) ∙ c.loop.invariant.faults;
  asked = omega (arith, c.loop.invariant.asked, c.ask.ensures.count_grows);
  over = PassesOver.OneMore _ _ _ c.loop.invariant.over (rw (c.loop.invariant.ahead) at (c.in_default.ensures.passed refl));
}
