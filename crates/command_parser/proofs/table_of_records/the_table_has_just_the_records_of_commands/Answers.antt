use Rattle.command_parser.proofs.RowLemmas.{StatesCommand-HasRow}
use Rattle.command_parser.proofs.RowCommandLemmas.{HasRow-StatesSome}
use Rattle.command_parser.proofs.table_of_records.the_table_has_just_the_records_of_commands.Goals as goal

pub returns-clause-has : goal.returns-clause-has
returns-clause-has c = StatesCommand-HasRow

pub returns-clause-states : goal.returns-clause-states
returns-clause-states c = HasRow-StatesSome
