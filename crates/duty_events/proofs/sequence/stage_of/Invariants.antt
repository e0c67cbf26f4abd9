use Rattle.std.proofs.Common.{◌≡◌, drop, fold}
use Rattle.duty_events.specs.Lists.{stage_after, stage_of}
use Rattle.duty_events.proofs.sequence.stage_of.Given as goal

abbrev pub invariant-loop-event : goal.invariant-loop-event
invariant-loop-event l = fold stage_after l.stage (drop l.event-index l.events) ≡ stage_of l.events
