use Rattle.std.proofs.Common.{[], sym, subst}
use Rattle.duty_events.specs.EndedTours.{end_of}
use Rattle.duty_events.proofs.EndedTourLemmas.{last_tour-nil}
use Rattle.rest_rules.specs.Rest.{is_off}
use Rattle.rest_rules.proofs.OffFromLemmas.{off_from-nil}
use Rattle.person_clock.specs.Rest.{GaugesOff}
use Rattle.person_clock.proofs.RestLemmas.{excess-nil}
use Rattle.person_clock.proofs.rest_clock.RestClock.new.Goals as goal

pub returns : goal.returns
returns c = record {
  since = sym off_from-nil;
  over = sym excess-nil;
  gauges = subst (λ o. GaugesOff (is_off []) (end_of o) (record { off_from = 0; excess = 0; off = c.starting.result })) (sym last_tour-nil) (record {
    until = c.starting.ensures.until;
    tells = c.starting.ensures.tells (is_off []);
  });
}
