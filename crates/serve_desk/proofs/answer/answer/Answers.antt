use Rattle.serve_desk.proofs.AnswerLemmas.{Answers-end, Answers-fault}
use Rattle.serve_desk.proofs.answer.answer.Goals as goal

pub returns-in-End-clause-answers : goal.returns-in-End-clause-answers
returns-in-End-clause-answers g c = Answers-end _ _ _ _ _ _ c.in-End.ensures.hears

pub returns-in-LineFault-clause-answers : goal.returns-in-LineFault-clause-answers
returns-in-LineFault-clause-answers g c = Answers-fault _ _ _ _ _ _ c.in-LineFault.ensures.hears
