use Rattle.fast_core.proofs.CoreLemmas.{some-later}
use Rattle.fast_core.proofs.fast_core.FastCore.copy.Goals as goal

pub invariant_of-result : goal.invariant_of-result
invariant_of-result c = record { some = some-later c.args.self.now.desk c.in_ok-desk.desk c.args.self.now.some (λ h tells. (h, (c.in_ok-desk.ensures.tells h).1 tells)) }
