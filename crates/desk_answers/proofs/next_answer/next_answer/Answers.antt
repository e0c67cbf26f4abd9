use Rattle.std.proofs.Common.{rules, sym, ◌∙◌}
use Rattle.desk_answers.proofs.next_answer.next_answer.Goals as goal

pub returns-in-None-clause-answer : goal.returns-in-None-clause-answer
returns-in-None-clause-answer g c h tells late =
    let made = sym (c.vacancy.ensures h tells) ∙ c.in-Some.is in
    let vacant = c.vacant_answer.ensures.answer h tells c.args.vac made late in search rules

pub returns-in-None-clause-steps : goal.returns-in-None-clause-steps
returns-in-None-clause-steps g c h tells late =
    let made = sym (c.vacancy.ensures h tells) ∙ c.in-Some.is in rw made (c.vacant_answer.ensures.steps h tells c.args.vac made late)
