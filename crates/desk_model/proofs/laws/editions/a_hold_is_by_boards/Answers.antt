use Rattle.desk_model.proofs.HeldLemmas.{hold_end-none, hold_end-more}
use Rattle.desk_model.proofs.laws.editions.a_hold_is_by_boards.Goals as goal

pub returns-clause-none : goal.returns-clause-none
returns-clause-none c = hold_end-none

pub returns-clause-more : goal.returns-clause-more
returns-clause-more c = hold_end-more
