use Rattle.std.proofs.Common.{◌≡◌, take}
use Rattle.duty_events.specs.Lists.{stage_of}
use Rattle.consecutive_days.specs.Run.{run_days, last_start}
use Rattle.consecutive_days.specs.Steps.{last_day}
use Rattle.consecutive_days.proofs.run.last_run.Given as goal

abbrev pub invariant-loop-event : goal.invariant-loop-event
invariant-loop-event l = record {
  days : l.days ≡ run_days (take l.event-index l.events);
  last : l.last ≡ last_day (last_start (take l.event-index l.events));
  stage : l.stage ≡ stage_of (take l.event-index l.events);
}
