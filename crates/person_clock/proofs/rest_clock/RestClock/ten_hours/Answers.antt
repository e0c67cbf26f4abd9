use Rattle.std.proofs.Common.{◌+◌, ap, ◌∙◌, arith}
use Rattle.duty_events.proofs.EventLemmas.{reached-years}
use Rattle.rest_rules.specs.declared.rest.TheConstants.{REST}
use Rattle.rest_rules.proofs.OffFromLemmas.{off_from-most}
use Rattle.person_clock.proofs.rest_clock.RestClock.ten_hours.Goals as goal

pub returns : goal.returns
returns c es rest lawful = c.later.ensures (omega (arith, rest.since, off_from-most es, reached-years es lawful)) ∙ ap (λ n. n + REST) rest.since
