use Rattle.std.proofs.Common.{◌≡◌, ◌+◌, ◌-◌, List}
use Rattle.desk_base.specs.Minute.{month_of}
use Rattle.duty_events.specs.declared.event.Event.{Event}
use Rattle.month_hours.specs.Over.{first_over}
use Rattle.month_hours.specs.Plan.{end_of}
use Rattle.month_hours.proofs.OverLemmas.{first_from}
use Rattle.person_clock.specs.Hours.{AreSoFar}
use Rattle.person_clock.proofs.hours.first_over.Given as goal

-- the first month over is none of those so far
abbrev pub invariant-loop-share : goal.invariant-loop-share
invariant-loop-share l = (es : List Event) → AreSoFar l.limit l.window l.sums es
    → first_from l.limit es l.plan (month_of l.plan.report + l.share-index) (month_of (end_of l.plan - 1) + 1 - (month_of l.plan.report + l.share-index))
    ≡ first_over l.limit es l.plan
