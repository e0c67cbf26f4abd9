use Rattle.std.proofs.Common.{◌≡◌, ◌≤◌, ◌++◌, take, vec_capacity}
use Rattle.desk_model.specs.texts.Journal.{entry_lines}
use Rattle.day_replay.specs.Gathered.{Gathers}
use Rattle.day_replay.proofs.lines.gather_lines.Given as goal

-- the lines of the first entries were put into the sink, or wait
abbrev pub invariant-loop-entry : goal.invariant-loop-entry
invariant-loop-entry g l = record {
  gathered : Gathers (g.K.Sink.held l.fn.sink) (g.K.Sink.held l.sink) (l.fn.buffer.items ++ entry_lines (take l.entry-index l.entries)) l.buffer.items;
  room : 512 ≤ vec_capacity l.buffer;
  capacity : vec_capacity l.fn.buffer ≤ vec_capacity l.buffer;
  unfaulted : g.K.Sink.faults l.sink ≡ g.K.Sink.faults l.fn.sink;
}
