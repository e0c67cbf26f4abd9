use Rattle.desk_model.proofs.ToldLemmas.{said-comes, said-lies}
use Rattle.desk_model.proofs.laws.entries.what_is_told_may_follow.Goals as goal

pub returns-clause-follows : goal.returns-clause-follows
returns-clause-follows c = said-comes

pub returns-clause-first : goal.returns-clause-first
returns-clause-first c h e p t legal is told = (said-lies h e p t legal is told).0

pub returns-clause-last : goal.returns-clause-last
returns-clause-last c h e p t legal is told = (said-lies h e p t legal is told).1
