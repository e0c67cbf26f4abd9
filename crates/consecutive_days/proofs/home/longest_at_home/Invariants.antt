use Rattle.std.proofs.Common.{◌≡◌, min, take}
use Rattle.duty_events.specs.Lists.{stage_of, last_event, reached}
use Rattle.duty_events.specs.Gauge.{Tells}
use Rattle.consecutive_days.specs.Days.{is_off_at_home}
use Rattle.consecutive_days.proofs.HomeLemmas.{IsAt}
use Rattle.consecutive_days.proofs.home.longest_at_home.Given as goal

abbrev pub invariant-loop-event : goal.invariant-loop-event
invariant-loop-event l = record {
  tells : Tells (is_off_at_home (take l.event-index l.events) l.home) l.from l.gauge;
  until : l.gauge.until ≡ min (reached (last_event (take l.event-index l.events))) l.to;
  place : IsAt (take l.event-index l.events) l.home l.place;
  stage : l.stage ≡ stage_of (take l.event-index l.events);
  before : l.before ≡ last_event (take l.event-index l.events);
}
