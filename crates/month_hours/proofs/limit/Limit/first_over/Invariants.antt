use Rattle.std.proofs.Common.{◌≡◌, ◌-◌}
use Rattle.month_hours.specs.Over.{first_over}
use Rattle.month_hours.proofs.OverLemmas.{first_from}
use Rattle.month_hours.proofs.limit.Limit.first_over.Given as goal

abbrev pub invariant-loop-number : goal.invariant-loop-number
invariant-loop-number l = first_from l.self l.events l.plan l.number (l.end - l.number) ≡ first_over l.self l.events l.plan
