use Rattle.std.proofs.Common.{◌-◌, length}
use Rattle.byte_marks.specs.Marks.{AreMarked}
use Rattle.byte_marks.proofs.marks.Marks.next_mask.Given as goal

abbrev pub invariant-loop-mask : goal.invariant-loop-mask
invariant-loop-mask l = AreMarked l.self.text l.self.mark l.self.from l.begin l.mask

abbrev pub decreases-loop-mask : goal.decreases-loop-mask
decreases-loop-mask l = length l.self.text - l.begin
