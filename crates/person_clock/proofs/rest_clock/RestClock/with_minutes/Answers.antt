use Rattle.std.proofs.Common.{◌<◌, refl, arith}
use Rattle.std.proofs.lemmas.Bool.Decides.{nat_tests}
use Rattle.person_clock.proofs.rest_clock.RestClock.with_minutes.Goals as goal

pub returns-then-lt-clause-gauges : goal.returns-then-lt-clause-gauges
returns-then-lt-clause-gauges c asked start gauges low off free worked = let less : c.args.from < c.args.to = grind (arith, nat_tests, c.lt.ensures, c.if-lt.true) in
    record {
      until = omega (arith, c.pass-then-lt.ensures.until, c.pass.ensures.until, c.number.ensures.value, c.number-then-lt.ensures.value, gauges.until, low, off, less);
      tells = c.pass-then-lt.ensures.tells asked asked start
          (c.pass.ensures.tells asked asked start gauges.tells (λ t early. refl) (λ t from to. free t (omega (arith, from, gauges.until)) (omega (arith, to, c.number.ensures.value))))
          (λ t early. refl)
          (λ t from to. worked t (omega (arith, from, c.pass.ensures.until, c.number.ensures.value)) (omega (arith, to, c.number-then-lt.ensures.value)) c.if-is_worked.true);
    }
