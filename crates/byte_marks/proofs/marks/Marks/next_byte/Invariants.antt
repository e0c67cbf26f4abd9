use Rattle.std.proofs.Common.{◌≤◌}
use Rattle.byte_marks.specs.Marks.{IsNowhere}
use Rattle.byte_marks.proofs.marks.Marks.next_byte.Given as goal

abbrev pub invariant-loop-at : goal.invariant-loop-at
invariant-loop-at l = (l.self.from ≤ l.at) × IsNowhere l.self.text l.self.mark l.self.from l.at
