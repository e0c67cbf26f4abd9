use Rattle.std.proofs.Common.{◌<◌, refl, arith}
use Rattle.std.proofs.lemmas.Bool.Decides.{nat_tests}
use Rattle.duty_events.proofs.GaugeLemmas.{tells-same, tells-passed_asked, tells-passed_other}
use Rattle.duty_events.proofs.gauge.Gauge.pass.Goals as goal

pub returns-then-to-self-clause-tells : goal.returns-then-to-self-clause-tells
returns-then-to-self-clause-tells c was asked from tells same are = tells-same was asked from c.args.self tells same

pub returns-then-are_asked-clause-tells : goal.returns-then-are_asked-clause-tells
returns-then-are_asked-clause-tells c was asked from tells same are =
    let behind : c.args.self.until < c.args.to = grind (arith, nat_tests, c.if-to-self.false, c.self.view_is) in
    tells-passed_asked was asked from c.args.self c.args.to c.args.are_asked _ _ _ tells same are c.if-are_asked.true behind
    (cc c.self.view_is) (grind (arith, c.max.ensures, c.saturating_sub-so_far.ensures, c.self.view_is)) refl

pub returns-else-are_asked-clause-tells : goal.returns-else-are_asked-clause-tells
returns-else-are_asked-clause-tells c was asked from tells same are =
    let behind : c.args.self.until < c.args.to = grind (arith, nat_tests, c.if-to-self.false, c.self.view_is) in
    tells-passed_other was asked from c.args.self c.args.to c.args.are_asked _ _ _ tells same are c.if-are_asked.false behind
    (grind (arith, c.max-else-are_asked.ensures, c.self.view_is)) (cc c.self.view_is) refl
