use Rattle.std.proofs.Common.{◌≡◌, ◌≤◌, take}
use Rattle.std.specs.List.{count_by}
use Rattle.memchr.specs.Find.{is_byte}
use Rattle.crewdesk_main.proofs.count_lines.count_in.Given as goal

abbrev pub invariant-loop-byte : goal.invariant-loop-byte
invariant-loop-byte l = record {
  counted : l.fed ≡ count_by (is_byte 10) (take l.byte-index l.block);
  few : l.fed ≤ l.byte-index;
}
