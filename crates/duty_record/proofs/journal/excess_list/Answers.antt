use Rattle.desk_model.specs.histories.History.{history_of}
use Rattle.duty_record.proofs.journal.excess_list.Goals as goal

pub returns : goal.returns
returns c o = c.excess_list.ensures (history_of o c.args.entries.now) (c.in_ok-read_all.ensures o)
