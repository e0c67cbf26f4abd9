use Rattle.std.proofs.Common.{◌≡◌, min, take}
use Rattle.duty_events.specs.Gauge.{Tells}
use Rattle.duty_events.specs.Lists.{last_event, reached}
use Rattle.rest_rules.specs.Rest.{is_off}
use Rattle.rest_rules.proofs.rest.longest_off.Given as goal

abbrev pub invariant-loop-event : goal.invariant-loop-event
invariant-loop-event l = record {
  until : l.gauge.until ≡ min (reached (last_event (take l.event-index l.events))) l.to;
  tells : Tells (is_off (take l.event-index l.events)) l.from l.gauge;
  before : l.before ≡ last_event (take l.event-index l.events);
}
