use Rattle.std.proofs.Common.{◌≡◌, take}
use Rattle.duty_events.specs.Lists.{stage_of, last_event}
use Rattle.duty_events.specs.Tours.{sum_so_far}
use Rattle.month_hours.specs.Capped.{capped_minutes}
use Rattle.month_hours.proofs.limbo.capped.Given as goal

abbrev pub invariant-loop-event : goal.invariant-loop-event
invariant-loop-event l = record {
  total : l.total ≡ capped_minutes (take l.event-index l.events) l.first l.many;
  sum : l.sum ≡ sum_so_far (take l.event-index l.events);
  stage : l.stage ≡ stage_of (take l.event-index l.events);
  before : l.before ≡ last_event (take l.event-index l.events);
}
