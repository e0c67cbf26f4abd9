use Rattle.command_parser.proofs.command_records.CommandRecords.read_all.Goals as goal

pub returns-in-Ok-false-clause-all : goal.returns-in-Ok-false-clause-all
returns-in-Ok-false-clause-all c = λ first most all has.
    rw c.in-Ok-false.field-0-test at (c.in-Ok-false.ensures.reads first most all _ (c.loop-commands.invariant first most all has))

pub returns-in-Err-clause-fault : goal.returns-in-Err-clause-fault
returns-in-Err-clause-fault c = λ first most all has. c.in-Err.ensures.fault first most all _ (c.loop-commands.invariant first most all has)
