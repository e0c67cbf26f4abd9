use Rattle.std.proofs.Common.{take}
use Rattle.desk_model.specs.statements.Opening.{OpeningValue}
use Rattle.desk_model.specs.histories.History.{history_of}
use Rattle.duty_record.specs.Kept.{Keeps}
use Rattle.duty_record.proofs.journal.read_all.Given as goal

abbrev pub invariant-loop-entry : goal.invariant-loop-entry
invariant-loop-entry l = (o : OpeningValue) → Keeps l.records (history_of o (take l.entry-index l.entries))
