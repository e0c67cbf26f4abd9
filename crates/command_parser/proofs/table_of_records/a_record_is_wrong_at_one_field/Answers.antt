use Rattle.command_parser.proofs.FormLemmas.{wrong-one}
use Rattle.command_parser.proofs.PositionLemmas.{wrong-missing, wrong-too_many, wrong-no_command}
use Rattle.command_parser.proofs.table_of_records.a_record_is_wrong_at_one_field.Goals as goal

pub returns-clause-one : goal.returns-clause-one
returns-clause-one c = wrong-one

pub returns-clause-missing : goal.returns-clause-missing
returns-clause-missing c = wrong-missing

pub returns-clause-too_many : goal.returns-clause-too_many
returns-clause-too_many c = wrong-too_many

pub returns-clause-no_command : goal.returns-clause-no_command
returns-clause-no_command c = wrong-no_command
