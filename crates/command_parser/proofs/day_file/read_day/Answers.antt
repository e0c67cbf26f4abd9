use Rattle.command_parser.proofs.DayLemmas.{day-reads, fault-told}
use Rattle.command_parser.proofs.day_file.read_day.Goals as goal

pub returns-clause-reads : goal.returns-clause-reads
returns-clause-reads c = λ o commands day. day-reads c.read_records.result _ o commands c.read_records.ensures.fault day

pub returns-clause-tells : goal.returns-clause-tells
returns-clause-tells c = λ fault has. fault-told c.read_records.result _ fault c.read_records.ensures.day c.read_records.ensures.fault has
