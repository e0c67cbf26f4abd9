use Rattle.std.proofs.Common.{◌≡◌, ◌++◌, ◌≤◌, length, drop}
use Rattle.byte_marks.specs.Marks.{marks_from}
use Rattle.desk_base.specs.Parts.{parts_by}
use Rattle.record_rows.proofs.fields.fill_with_line.Given as goal

abbrev pub invariant-loop-filled : goal.invariant-loop-filled
invariant-loop-filled l = record {
  parts : l.fields ++ parts_by 44 (drop l.start l.text) ≡ parts_by 44 l.fn.text;
  count : length l.fields ≡ l.filled;
  within : l.start ≤ length l.text;
  commas : l.commas ≡ marks_from l.text 44 l.start;
}
