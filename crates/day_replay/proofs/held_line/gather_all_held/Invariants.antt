use Rattle.std.proofs.Common.{◌≡◌, ◌++◌, drop}
use Rattle.day_replay.specs.Held.{held_lines}
use Rattle.day_replay.proofs.JournalLemmas.{GathersHeld}
use Rattle.day_replay.proofs.held_line.gather_all_held.Given as goal

-- the lines so far were put into the sink, or wait, and what is held of the others is left
abbrev pub invariant-loop-line : goal.invariant-loop-line
invariant-loop-line g l = record {
  gathered : GathersHeld (g.K.Sink.held l.fn.sink) (g.K.Sink.held l.sink) (l.fn.buffer.items ++ held_lines l.lines l.texts) (drop l.line-index l.lines) l.left l.buffer.items;
  unfaulted : g.K.Sink.faults l.sink ≡ g.K.Sink.faults l.fn.sink;
}
