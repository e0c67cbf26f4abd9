use Rattle.std.proofs.Common.{◌≤◌, subst, arith}
use Rattle.duty_events.specs.Gauge.{Tells}
use Rattle.person_clock.proofs.rest_clock.RestClock.with_end.Goals as goal

pub returns-in-Some-clause-gauges : goal.returns-in-Some-clause-gauges
returns-in-Some-clause-gauges c asked start gauges late =
    let by : c.args.self.off_from ≤ c.in-Some.tour.end = rw c.in-Some.is at late in
    rw c.in-Some.is (record {
      until = omega (arith, c.starting.ensures.until, c.number.ensures.value, by);
      tells = subst (λ n. Tells asked n c.starting.result) c.number.ensures.value (c.starting.ensures.tells asked);
    })
