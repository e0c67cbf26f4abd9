use Rattle.std.proofs.Common.{◌≡◌, ◌≤◌, ◌*◌, ◌-◌}
use Rattle.arrayvec.specs.ArrayVec.{array_vec_len}
use Rattle.qualifications.specs.Quals.{joined, numbers_below}
use Rattle.qualifications.proofs.quals.Quals.write.Given as goal

abbrev pub invariant-loop-number : goal.invariant-loop-number
invariant-loop-number l = record {
  text_is : l.text.items ≡ joined (numbers_below l.fn.self l.from);
  room : array_vec_len l.text ≤ 3 * l.from;
  most : l.from ≤ 64;
}

abbrev pub decreases-loop-number : goal.decreases-loop-number
decreases-loop-number l = 64 - l.from
