use Rattle.command_parser.proofs.LineReadLemmas.{command-reads, fail-told}
use Rattle.command_parser.proofs.command_line.read_next_command.Goals as goal

pub returns-clause-only : goal.returns-clause-only
returns-clause-only c = λ s is. command-reads c.read_line.result _ s c.read_line.ensures.some c.read_line.ensures.fail is

pub returns-clause-tells : goal.returns-clause-tells
returns-clause-tells c = λ fail has. fail-told c.read_line.result _ fail c.read_line.ensures.some c.read_line.ensures.fail has
