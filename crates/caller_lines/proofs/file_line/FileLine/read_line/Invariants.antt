use Rattle.std.proofs.Common.{◌≡◌, ◌≢◌, ◌-◌, []}
use Rattle.caller_lines.specs.FileLine.{HasNoFile, GaveOn}
use Rattle.caller_lines.specs.Takes.{left_of, Gathering}
use Rattle.caller_lines.proofs.file_line.FileLine.read_line.Given as goal

-- the parts of the line so far; while it is read no fault is counted and no error, both files stay, and what waits is written before the
-- reader is asked
abbrev pub invariant-loop-len : goal.invariant-loop-len
invariant-loop-len g l = record {
  so_far : Gathering (left_of g.R.Read.remaining l.fn.self) (left_of g.R.Read.remaining l.self) l.into.items l.len;
  faults : l.self.faults ≡ l.fn.self.faults;
  errors : l.self.errors ≡ l.fn.self.errors;
  there : HasNoFile l.self → HasNoFile l.fn.self;
  gave : GaveOn g.W.Write.contents l.fn.self.writer l.self.writer l.fn.self.waiting l.self.waiting [];
  unasked : l.self.waiting ≢ [] → l.self.reader ≡ l.fn.self.reader;
}

abbrev pub decreases-loop-len : goal.decreases-loop-len
decreases-loop-len g l = 16777217 - l.len
