use Rattle.std.proofs.Common.{◌≡◌, ◌+◌, nat_le, refl, subst, ◌∙◌, arith}
use Rattle.duty_events.specs.EndedTours.{last_tour, end_of}
use Rattle.duty_events.proofs.OffLemmas.{off-unless_worked}
use Rattle.duty_events.specs.Gauge.{Tells}
use Rattle.duty_events.specs.Stretch.{has_stretch}
use Rattle.rest_rules.specs.declared.rest.TheConstants.{REST}
use Rattle.rest_rules.specs.Rest.{is_off, was_off}
use Rattle.rest_rules.proofs.OffFromLemmas.{off_from-is, off_from-most}
use Rattle.person_clock.proofs.RestLemmas.{last_end-most}
use Rattle.person_clock.proofs.rest_clock.RestClock.is_ok.Goals as goal

pub returns : goal.returns
returns c es lawful off late rest =
    let end = end_of (last_tour es) in
    let many = REST + c.args.more in
    let until : c.pass.result.until ≡ c.args.at = omega (arith, c.pass.ensures.until, c.number.ensures.value, rest.gauges.until, rest.since, off_from-most es, last_end-most es lawful, late) in
    let tells : Tells (is_off es) end c.pass.result =
    c.pass.ensures.tells (is_off es) (is_off es) end rest.gauges.tells (λ t early. refl)
    (λ t from to. off-unless_worked es lawful off t ((off_from-is es lawful).after t (omega (arith, from, rest.gauges.until, rest.since)))) in
    let has : nat_le many c.longest-longest.result ≡ was_off es many c.args.at =
    subst (λ u. nat_le many c.longest-longest.result ≡ has_stretch (is_off es) many end u) until (c.longest-longest.ensures.stretch (is_off es) end many tells (omega arith)) in
    c.has_rested.ensures ∙ rw (rest.since, has) refl
