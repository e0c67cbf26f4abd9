use Rattle.std.proofs.Common.{rules, sym, ◌∙◌}
use Rattle.desk_model.specs.answers.ExplainAnswer.{clear_answer}
use Rattle.desk_answers.proofs.question_answers.explain_answer.Goals as goal

pub returns-in-Ok-clause-answer : goal.returns-in-Ok-clause-answer
returns-in-Ok-clause-answer g c h tells late = let told = c.in-Ok.ensures.answer h tells c.args.vac (sym (c.vacancy.ensures h tells) ∙ c.in-Some.is) late (sym (c.person.ensures h tells) ∙ c.in-Some-person.is) clear_answer in search rules

pub returns-in-Err-clause-answer : goal.returns-in-Err-clause-answer
returns-in-Err-clause-answer g c h tells late = let told = c.in-Err.ensures.answer h tells c.args.vac (sym (c.vacancy.ensures h tells) ∙ c.in-Some.is) late (sym (c.person.ensures h tells) ∙ c.in-Some-person.is) clear_answer in search rules
