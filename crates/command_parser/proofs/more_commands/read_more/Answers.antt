use Rattle.command_parser.proofs.MoreLemmas.{commands-read, more-told}
use Rattle.command_parser.proofs.more_commands.read_more.Goals as goal

pub returns-clause-reads : goal.returns-clause-reads
returns-clause-reads c = λ commands are. commands-read c.read_rows.result _ _ commands c.read_rows.ensures.fault are

pub returns-clause-tells : goal.returns-clause-tells
returns-clause-tells c = λ fault has. more-told (λ read. read.items) c.read_rows.result _ _ fault c.read_rows.ensures.commands c.read_rows.ensures.fault has
