use Rattle.desk_register.proofs.AmongLemmas.{person-indexed, board-indexed}
use Rattle.desk_register.proofs.roster.who_is_enrolled_has_an_index.Goals as goal

pub returns-clause-persons : goal.returns-clause-persons
returns-clause-persons c = person-indexed

pub returns-clause-boards : goal.returns-clause-boards
returns-clause-boards c = board-indexed
