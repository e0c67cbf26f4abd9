use Rattle.command_parser.proofs.SpelledLemmas.{plain-spells}
use Rattle.command_parser.proofs.stated_record.a_plain_record_is_its_statement.Goals as goal

pub returns : goal.returns
returns c = plain-spells
