use Rattle.command_parser.specs.declared.limits.TheConstants.{COMMAND_LIMIT}
use Rattle.command_parser.proofs.RecordsLemmas.{fault-passed}
use Rattle.command_parser.proofs.day_file.read_records.Goals as goal

pub returns-in_err-commands-clause-fault : goal.returns-in_err-commands-clause-fault
returns-in_err-commands-clause-fault c =
    let opened = c.in_ok-day.ensures.opened in
    fault-passed c.from_residual-in_err-commands.result c.args.bytes.now c.in_err-commands.field-0.0 c.from_residual-in_err-commands.ensures.1 (λ some.
    c.an_open_day_is_read_by_its_commands.ensures.fault _ _ opened.0 _ opened.1 (c.in_err-commands.ensures.fault 2 COMMAND_LIMIT opened.0 opened.1.unread some))

pub returns-clause-day : goal.returns-clause-day
returns-clause-day c =
    let opened = c.in_ok-day.ensures.opened in
    c.an_open_day_is_read_by_its_commands.ensures.day _ _ opened.0 _ opened.1 (c.in_ok-commands.ensures.all 2 COMMAND_LIMIT opened.0 opened.1.unread)
