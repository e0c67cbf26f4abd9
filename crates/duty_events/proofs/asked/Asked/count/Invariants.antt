use Rattle.std.proofs.Common.{◌≡◌, take}
use Rattle.duty_events.specs.Asked.{asked_minutes}
use Rattle.duty_events.specs.Lists.{last_event}
use Rattle.duty_events.proofs.asked.Asked.count.Given as goal

abbrev pub invariant-loop-event : goal.invariant-loop-event
invariant-loop-event l = record {
  total : l.total ≡ asked_minutes l.self (take l.event-index l.events) l.first l.many;
  before : l.before ≡ last_event (take l.event-index l.events);
}
