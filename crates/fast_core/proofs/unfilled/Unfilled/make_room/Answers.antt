use Rattle.fast_core.proofs.unfilled.Unfilled.make_room.Goals as goal

pub returns-then-len-ge-VACANCY_LIMIT-clause-keeps : goal.returns-then-len-ge-VACANCY_LIMIT-clause-keeps
returns-then-len-ge-VACANCY_LIMIT-clause-keeps c h was = c.forget.ensures.all h
