use Rattle.std.proofs.Common.{◌≤◌, ◌+◌, ◌++◌, length}
use Rattle.desk_model.specs.statements.Opening.{OpeningValue, IsOpening}
use Rattle.desk_model.specs.histories.History.{opened}
use Rattle.desk_model.specs.texts.Journal.{journal}
use Rattle.crewdesk_main.proofs.TourLemmas.{HasRead}
use Rattle.crewdesk_main.proofs.read_tours.read_entries.Given as goal

-- the tours of the entries that were read so far are kept
abbrev pub invariant-loop-left : goal.invariant-loop-left
invariant-loop-left l = record {
  few : l.count + length l.left ≤ length l.text;
  read : (o : OpeningValue) → IsOpening o → HasRead l.records (journal (opened o) ++ l.text) l.left l.count;
}

abbrev pub decreases-loop-left : goal.decreases-loop-left
decreases-loop-left l = length l.left
