use Rattle.command_parser.proofs.DayLemmas.{IsDayFile-one}
use Rattle.command_parser.proofs.day_file.bytes_are_one_day_file.Goals as goal

pub returns : goal.returns
returns c = IsDayFile-one
