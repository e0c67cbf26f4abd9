use Rattle.std.proofs.Common.{subst}
use Rattle.std.proofs.lemmas.Option.{IfSome_then}
use Rattle.command_parser.specs.Spelled.{StatesCommand}
use Rattle.command_parser.proofs.SpelledLemmas.{plain-spells}
use Rattle.command_parser.proofs.command_records.CommandRecords.next.Goals as goal

pub returns-then-put_stated_in_row-clause-spelled : goal.returns-then-put_stated_in_row-clause-spelled
returns-then-put_stated_in_row-clause-spelled c = λ found. IfSome_then c.line-self.result c.line-self.ensures (λ line fields.
    plain-spells line.now c.put_stated_in_row.new.stated (subst (λ f. StatesCommand f c.put_stated_in_row.new.stated) fields (c.put_stated_in_row.ensures.some c.if-put_stated_in_row.true)))
