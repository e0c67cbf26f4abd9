use Rattle.std.proofs.Common.{◌≡◌, ◌+◌, ◌/◌, ◌%◌, ◌^◌, ◌≤◌, ◌<◌}
use Rattle.std.specs.Int.RustNames.{count_ones}
use Rattle.slot_tree.proofs.word.bit_as.Given as goal

-- the bit is one of so many from one on, before which it has the others
abbrev pub invariant-loop-t : goal.invariant-loop-t
invariant-loop-t l = record {
  within : l.at + 2 ^ l.t ≤ 64;
  passed : count_ones (l.word % 2 ^ l.at) + l.left ≡ l.before;
  ahead : l.left < count_ones (l.word / 2 ^ l.at % 2 ^ (2 ^ l.t));
}
