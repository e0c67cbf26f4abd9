use Rattle.desk_model.proofs.ListedLemmas.{on-listed, order-listed, order-unknown}
use Rattle.desk_model.proofs.laws.answers.who_is_on_a_board_is_listed.Goals as goal

pub returns-clause-listed : goal.returns-clause-listed
returns-clause-listed c = on-listed

pub returns-clause-in_order : goal.returns-clause-in_order
returns-clause-in_order c = order-listed

pub returns-clause-empty : goal.returns-clause-empty
returns-clause-empty c = order-unknown
