use Rattle.std.proofs.Common.{subst}
use Rattle.duty_events.specs.Gauge.{Tells}
use Rattle.person_clock.proofs.days_clock.since_end.Goals as goal

pub returns-in-Some-clause-tells : goal.returns-in-Some-clause-tells
returns-in-Some-clause-tells c asked start tells =
    rw c.in-Some.is (subst (λ n. Tells asked n c.starting.result) c.number.ensures.value (c.starting.ensures.tells asked))
