use Rattle.std.proofs.Common.{◌≡◌, ◌++◌, filter, take}
use Rattle.duty_record.specs.Tours.{is_excess}
use Rattle.duty_record.proofs.duty_records.add_all.Given as goal

abbrev pub invariant-loop-tour : goal.invariant-loop-tour
invariant-loop-tour l = l.list.items ≡ l.fn.list.items ++ filter is_excess (take l.tour-index l.tours)
