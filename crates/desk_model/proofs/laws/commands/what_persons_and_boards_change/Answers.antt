use Rattle.desk_model.proofs.AcceptedLemmas.{enrols, sets-up, lists, unlists, marks-off, marks-on, qualifies, tells-past, happens}
use Rattle.desk_model.proofs.laws.commands.what_persons_and_boards_change.Goals as goal

pub returns-clause-enrol : goal.returns-clause-enrol
returns-clause-enrol c p craft home quals = enrols p craft home quals

pub returns-clause-board : goal.returns-clause-board
returns-clause-board c b extra place = sets-up b extra place

pub returns-clause-list : goal.returns-clause-list
returns-clause-list c p b = lists p b

pub returns-clause-unlist : goal.returns-clause-unlist
returns-clause-unlist c p b = unlists p b

pub returns-clause-off : goal.returns-clause-off
returns-clause-off c p = marks-off p

pub returns-clause-on : goal.returns-clause-on
returns-clause-on c p = marks-on p

pub returns-clause-qualify : goal.returns-clause-qualify
returns-clause-qualify c p quals = qualifies p quals

pub returns-clause-past : goal.returns-clause-past
returns-clause-past c p e = tells-past p e

pub returns-clause-happened : goal.returns-clause-happened
returns-clause-happened c p e = happens p e
