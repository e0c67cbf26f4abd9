use Rattle.caller_lines.proofs.CrewLemmas.{no-command}
use Rattle.caller_lines.proofs.hearing.a_crew_call_is_no_command.Goals as goal

pub returns : goal.returns
returns c = no-command
