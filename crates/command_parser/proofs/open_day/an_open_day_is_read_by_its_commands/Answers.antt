use Rattle.command_parser.proofs.RecordsLemmas.{IsOpen-day, IsOpen-fault}
use Rattle.command_parser.proofs.open_day.an_open_day_is_read_by_its_commands.Goals as goal

pub returns-clause-day : goal.returns-clause-day
returns-clause-day c = IsOpen-day

pub returns-clause-fault : goal.returns-clause-fault
returns-clause-fault c = IsOpen-fault
