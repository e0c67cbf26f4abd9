use Rattle.duty_record.proofs.ReadLemmas.{keeps-none}
use Rattle.duty_record.proofs.duty_records.DutyRecords.new.Goals as goal

pub returns : goal.returns
returns c o = keeps-none o _ c.new.ensures c.new-2.ensures c.new-3.ensures
