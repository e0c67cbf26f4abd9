use Rattle.std.proofs.Common.{◌≡◌, take}
use Rattle.duty_events.specs.Lists.{stage_of, latest, IsLawful}
use Rattle.duty_events.proofs.lawful.is_lawful.Given as goal

abbrev pub invariant-loop-event : goal.invariant-loop-event
invariant-loop-event l = record {
  stage : l.stage ≡ stage_of (take l.event-index l.events);
  last : l.last ≡ latest (take l.event-index l.events);
  lawful : IsLawful (take l.event-index l.events);
}
