use Rattle.std.proofs.Common.{◌≡◌, ◌≤◌, take, length}
use Rattle.csv.specs.Records.{fields_of}
use Rattle.record_rows.proofs.fields.fill_with_record.Given as goal

abbrev pub invariant-loop-index : goal.invariant-loop-index
invariant-loop-index l = (l.fields ≡ take l.index (fields_of l.row)) × (length l.fields ≤ l.index)
