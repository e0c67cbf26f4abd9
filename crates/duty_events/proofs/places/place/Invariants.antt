use Rattle.std.proofs.Common.{◌≡◌, take}
use Rattle.duty_events.specs.Lists.{stage_of}
use Rattle.duty_events.specs.Places.{place_of}
use Rattle.duty_events.proofs.places.place.Given as goal

abbrev pub invariant-loop-event : goal.invariant-loop-event
invariant-loop-event l = record {
  found : l.found ≡ place_of (take l.event-index l.events) l.fn.home l.at;
  stage : l.stage ≡ stage_of (take l.event-index l.events);
}
