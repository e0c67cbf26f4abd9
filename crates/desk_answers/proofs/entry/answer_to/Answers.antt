use Rattle.desk_answers.proofs.entry.answer_to.Goals as goal

pub returns-in-Enrol-clause-answer : goal.returns-in-Enrol-clause-answer
returns-in-Enrol-clause-answer g c h tells late = rw c.in-Enrol.is (c.enrol_answer.ensures h tells)

pub returns-in-Board-clause-answer : goal.returns-in-Board-clause-answer
returns-in-Board-clause-answer g c h tells late = rw c.in-Board.is (c.board_answer.ensures h tells)

pub returns-in-List-clause-answer : goal.returns-in-List-clause-answer
returns-in-List-clause-answer g c h tells late = rw c.in-List.is (c.list_answer.ensures.answer h tells)

pub returns-in-Unlist-clause-answer : goal.returns-in-Unlist-clause-answer
returns-in-Unlist-clause-answer g c h tells late = rw c.in-Unlist.is (c.unlist_answer.ensures h tells)

pub returns-in-Qualify-clause-answer : goal.returns-in-Qualify-clause-answer
returns-in-Qualify-clause-answer g c h tells late = rw c.in-Qualify.is (c.qualify_answer.ensures h tells)
