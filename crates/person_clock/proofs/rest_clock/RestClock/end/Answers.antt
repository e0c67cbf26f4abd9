use Rattle.std.proofs.Common.{◌≡◌, ◌+◌, nat_le, refl, ap, ◌∙◌, arith}
use Rattle.duty_events.specs.EndedTours.{last_tour, end_of}
use Rattle.duty_events.proofs.EventLemmas.{reached-years}
use Rattle.duty_events.specs.Stretch.{has_stretch}
use Rattle.rest_rules.specs.declared.rest.TheConstants.{REST}
use Rattle.rest_rules.specs.Excess.{excess}
use Rattle.rest_rules.specs.OffFrom.{off_from}
use Rattle.rest_rules.specs.Rest.{is_off, was_off}
use Rattle.rest_rules.proofs.ExcessLemmas.{excess-range}
use Rattle.rest_rules.proofs.OffFromLemmas.{off_from-most}
use Rattle.person_clock.proofs.RestLemmas.{stretch-behind}
use Rattle.person_clock.proofs.rest_clock.RestClock.end.Goals as goal

pub returns : goal.returns
returns c es lawful rest =
    let r = c.args.self.now in
    let end = end_of (last_tour es) in
    let many = REST + excess es in
    let until = rest.gauges.until in
    let has : nat_le many c.longest.result ≡ was_off es many (off_from es) =
    c.longest.ensures.stretch (is_off es) end many rest.gauges.tells (omega arith)
    ∙ ap (has_stretch (is_off es) many end) until
    ∙ stretch-behind (is_off es) many end r.off_from (omega arith)
    ∙ ap (has_stretch (is_off es) many end) rest.since in
    c.end_of_rest.ensures (omega (arith, rest.since, rest.over, off_from-most es, reached-years es lawful, excess-range es lawful)) ∙ rw (rest.since, rest.over, has) refl
