use Rattle.desk_model.specs.histories.History.{history_of}
use Rattle.duty_record.proofs.journal.records.Goals as goal

pub returns : goal.returns
returns c o = c.tours.ensures (history_of o c.args.entries.now) (c.in_ok-read_all.ensures o)
