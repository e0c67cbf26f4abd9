use Rattle.std.proofs.Common.{refl}
use Rattle.command_parser.proofs.RecordsLemmas.{HasRead-none}
use Rattle.command_parser.proofs.command_records.CommandRecords.of.Goals as goal

pub returns-clause-unread : goal.returns-clause-unread
returns-clause-unread c = λ all left. HasRead-none c.args.first c.args.most all _ left c.from.ensures refl
