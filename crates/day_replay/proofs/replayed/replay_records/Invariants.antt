use Rattle.std.proofs.Common.{ℕ, ◌≤◌, List, []}
use Rattle.desk_model.specs.statements.Opening.{OpeningValue}
use Rattle.desk_model.specs.histories.History.{opened}
use Rattle.command_parser.specs.CommandRecords.{HasRead, records_left}
use Rattle.command_parser.specs.declared.limits.TheConstants.{COMMAND_LIMIT}
use Rattle.day_replay.proofs.ReplayLemmas.{HasReplayed}
use Rattle.day_replay.proofs.replayed.replay_records.Given as goal

abbrev pub invariant-loop-core : goal.invariant-loop-core
invariant-loop-core g l = record {
  left : records_left l.records ≤ g.C.DeskCore.room l.core;
  so_far : (rest : List (List (List ℕ))) (o : OpeningValue) → HasRead 2 COMMAND_LIMIT rest [] l.fn.records → g.C.DeskCore.stands l.fn.core (opened o)
      → g.T.DayKept.kept_of l.fn.kept (opened o) → HasReplayed rest o l.records (g.C.DeskCore.stands l.core) (g.T.DayKept.kept_of l.kept);
}

abbrev pub decreases-loop-core : goal.decreases-loop-core
decreases-loop-core g l = records_left l.records
