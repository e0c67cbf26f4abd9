use Rattle.std.proofs.Common.{◌≡◌, ◌⊎◌, take}
use Rattle.desk_base.specs.Minute.{IsInYears}
use Rattle.duty_events.specs.Lists.{last_event, reached}
use Rattle.rest_rules.specs.OffFrom.{off_from}
use Rattle.rest_rules.proofs.off_since.off_from.Given as goal

abbrev pub invariant-loop-event : goal.invariant-loop-event
invariant-loop-event l = record {
  end : l.end ≡ off_from (take l.event-index l.events);
  range : (l.end ≡ 0) ⊎ IsInYears l.end;
  latest : l.latest ≡ reached (last_event (take l.event-index l.events));
  before : l.before ≡ last_event (take l.event-index l.events);
}
