use Rattle.std.proofs.Common.{◌≡◌, ◌≤◌, ◌+◌, ◌++◌, [], length}
use Rattle.desk_model.specs.histories.History.{History}
use Rattle.desk_model.specs.texts.Journal.{journal}
use Rattle.audit_desk.proofs.FoundLemmas.{Reached}
use Rattle.audit_desk.proofs.audit_entries.audit_entries.Given as goal

-- the desk stands for the history whose journal was read so far
abbrev pub invariant-loop-left : goal.invariant-loop-left
invariant-loop-left g l = record {
  left : length l.left ≤ g.C.DeskCore.room l.core;
  few : l.count + length l.left ≤ length l.text;
  room : g.C.DeskCore.room l.fn.core + length l.left ≤ g.C.DeskCore.room l.core + length l.text;
  read : (h : History) → g.C.DeskCore.stands l.fn.core h → h.entries ≡ [] → Reached (g.C.DeskCore.stands l.core) (journal h ++ l.text) l.left l.count;
}

abbrev pub decreases-loop-left : goal.decreases-loop-left
decreases-loop-left g l = length l.left
