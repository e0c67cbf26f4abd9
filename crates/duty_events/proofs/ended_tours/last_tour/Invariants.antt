use Rattle.std.proofs.Common.{◌≡◌, take}
use Rattle.duty_events.specs.Lists.{stage_of}
use Rattle.duty_events.specs.EndedTours.{last_tour, last_begun}
use Rattle.duty_events.proofs.ended_tours.last_tour.Given as goal

abbrev pub invariant-loop-event : goal.invariant-loop-event
invariant-loop-event l = record {
  last : l.last ≡ last_tour (take l.event-index l.events);
  start : l.start ≡ last_begun (take l.event-index l.events);
  stage : l.stage ≡ stage_of (take l.event-index l.events);
}
