use Rattle.std.proofs.Common.{arith}
use Rattle.command_parser.proofs.FormLemmas.{each-next, has-its-form}
use Rattle.command_parser.proofs.first_wrong.allowed_front.Goals as goal

pub loop-i-preserved : goal.loop-i-preserved
loop-i-preserved c = each-next _ c.loop-i.i c.loop-i.invariant
    (has-its-form _ c.args.fields.now c.loop-i.i _ _ _ c.saturating_sub.ensures (omega (arith, c.loop-i-test.true, c.min-most.ensures)) (c.allows.ensures.0 c.if-not-allows.false))
