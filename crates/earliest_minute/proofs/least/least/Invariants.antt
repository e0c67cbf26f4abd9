use Rattle.std.specs.Prelude.{◌≡◌, ◌-◌}
use Rattle.desk_model.specs.histories.History.{History}
use Rattle.earliest_minute.specs.Least.{IsBetween}
use Rattle.earliest_minute.proofs.least.least.Given as goal

abbrev pub invariant-loop-minute : goal.invariant-loop-minute
invariant-loop-minute g l = record {
  suits : g.R.Reads.suits l.reads l.work;
  steps : g.R.Reads.steps l.work ≡ g.R.Reads.steps l.initial.work;
  sought : (h : History) → g.R.Reads.tells l.reads h → IsBetween h l.job l.number l.person l.fn.from l.fn.to → IsBetween h l.job l.number l.person l.barred l.clear;
}

abbrev pub decreases-loop-minute : goal.decreases-loop-minute
decreases-loop-minute g l = l.clear - l.barred
