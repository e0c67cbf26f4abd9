use Rattle.std.proofs.Common.{◌≡◌, take}
use Rattle.std.specs.List.{flat_map}
use Rattle.desk_model.specs.histories.History.{History}
use Rattle.duty_record.specs.Tours.{excess_of}
use Rattle.duty_record.specs.Kept.{Keeps}
use Rattle.duty_record.proofs.duty_records.DutyRecords.excess_of.Given as goal

abbrev pub invariant-loop-person : goal.invariant-loop-person
invariant-loop-person l = (h : History) → Keeps l.self h → l.list.items ≡ flat_map (excess_of h) (take l.person-index l.persons)
