use Rattle.command_parser.proofs.MoreLemmas.{AreCommands-one}
use Rattle.command_parser.proofs.more_commands.bytes_state_one_list_of_commands.Goals as goal

pub returns : goal.returns
returns c = AreCommands-one
