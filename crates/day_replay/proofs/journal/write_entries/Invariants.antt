use Rattle.std.proofs.Common.{◌≡◌, ◌≤◌, ◌+◌, ℕ, List, Option, length, take, vec_capacity}
use Rattle.desk_model.specs.histories.History.{History}
use Rattle.desk_model.specs.texts.Journal.{journal}
use Rattle.day_replay.specs.Gathered.{Gathers}
use Rattle.day_replay.specs.Replay.{goes_on}
use Rattle.day_replay.proofs.JournalLemmas.{Written}
use Rattle.day_replay.proofs.journal.write_entries.Given as goal

-- the desk stands for the history of the commands so far, whose journal was put into the sink, or waits
abbrev pub invariant-loop-stated : goal.invariant-loop-stated
invariant-loop-stated g l = record {
  left : length l.commands ≤ l.stated-index + g.C.DeskCore.room l.core;
  written : (before : Option (List ℕ)) (h : History) → g.C.DeskCore.stands l.fn.core h → Gathers before (g.K.Sink.held l.fn.sink) (journal h) l.fn.buffer.items
      → Written (g.C.DeskCore.stands l.core) before (g.K.Sink.held l.sink) (goes_on h (take l.stated-index l.commands)) l.buffer.items;
  room : 512 ≤ vec_capacity l.buffer;
  unfaulted : g.K.Sink.faults l.sink ≡ g.K.Sink.faults l.fn.sink;
}
