use Rattle.command_parser.proofs.ApartLemmas.{StatesCommand-one}
use Rattle.command_parser.proofs.command_record.a_record_states_one_command.Goals as goal

pub returns : goal.returns
returns c = StatesCommand-one
