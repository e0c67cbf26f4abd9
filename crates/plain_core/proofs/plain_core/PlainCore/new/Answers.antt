use Rattle.plain_core.proofs.plain_core.PlainCore.new.Goals as goal

pub returns-clause-stands : goal.returns-clause-stands
returns-clause-stands c = c.new-2.ensures.kept
