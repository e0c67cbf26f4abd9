use Rattle.std.proofs.Common.{rules, sym, ◌∙◌, arith}
use Rattle.desk_model.specs.offers.Bars.{first_free}
use Rattle.desk_model.specs.answers.OfferAnswer.{named_answer}
use Rattle.desk_answers.proofs.offer_answer.offer_answer.Goals as goal

pub returns-in-Ok-clause-answer : goal.returns-in-Ok-clause-answer
returns-in-Ok-clause-answer g c h tells late =
    let made = sym (c.vacancy.ensures h tells) ∙ c.in-Some.is in
    let told = c.in-Ok.ensures.answer h tells c.args.vac made late (sym (c.person.ensures h tells) ∙ c.in-Some-person.is) (named_answer c.args.number (first_free h c.args.moment c.in-Some.job)) in
    let first = c.first_free.ensures.answer h tells (record { made = (c.args.vac, made); from = late; to = c.in-Ok.ensures.in_time }) in search rules

pub returns-in-Err-clause-answer : goal.returns-in-Err-clause-answer
returns-in-Err-clause-answer g c h tells late =
    let told = c.in-Err.ensures.answer h tells c.args.vac (sym (c.vacancy.ensures h tells) ∙ c.in-Some.is) late (sym (c.person.ensures h tells) ∙ c.in-Some-person.is) (named_answer c.args.number (first_free h c.args.moment c.in-Some.job)) in search rules

pub returns-in-Ok-clause-steps : goal.returns-in-Ok-clause-steps
returns-in-Ok-clause-steps g c h tells late =
    let made = sym (c.vacancy.ensures h tells) ∙ c.in-Some.is in
    rw made (omega (arith, c.in-Ok.ensures.steps, c.first_free.ensures.steps h tells (record { made = (c.args.vac, made); from = late; to = c.in-Ok.ensures.in_time })))
