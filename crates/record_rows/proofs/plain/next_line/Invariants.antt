use Rattle.std.proofs.Common.{◌≡◌, length}
use Rattle.record_rows.specs.Plain.{plain_records}
use Rattle.record_rows.proofs.plain.next_line.Given as goal

abbrev pub invariant-loop-left : goal.invariant-loop-left
invariant-loop-left l = plain_records l.left ≡ plain_records l.fn.text

abbrev pub decreases-loop-left : goal.decreases-loop-left
decreases-loop-left l = length l.left
