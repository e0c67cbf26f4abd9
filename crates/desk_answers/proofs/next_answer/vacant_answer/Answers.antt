use Rattle.std.proofs.Common.{rules, arith}
use Rattle.desk_answers.proofs.AskedLemmas.{asked}
use Rattle.desk_answers.proofs.next_answer.vacant_answer.Goals as goal

pub returns-in-Some-clause-answer : goal.returns-in-Some-clause-answer
returns-in-Some-clause-answer g c h tells v made late =
    let first = c.first_free.ensures.answer h tells (asked h c.args.moment c.args.job.now v _ _ made late c.report.ensures.value c.lt.ensures c.if-lt.false) in search rules

pub returns-in-None-clause-answer : goal.returns-in-None-clause-answer
returns-in-None-clause-answer g c h tells v made late =
    let first = c.first_free.ensures.answer h tells (asked h c.args.moment c.args.job.now v _ _ made late c.report.ensures.value c.lt.ensures c.if-lt.false) in search rules

pub returns-in-Some-clause-steps : goal.returns-in-Some-clause-steps
returns-in-Some-clause-steps g c h tells v made late =
    c.first_free.ensures.steps h tells (asked h c.args.moment c.args.job.now v _ _ made late c.report.ensures.value c.lt.ensures c.if-lt.false)

pub returns-in-None-clause-steps : goal.returns-in-None-clause-steps
returns-in-None-clause-steps g c h tells v made late =
    omega (
      arith,
      c.listed.ensures.steps,
      c.first_free.ensures.steps h tells (asked h c.args.moment c.args.job.now v _ _ made late c.report.ensures.value c.lt.ensures c.if-lt.false),
    )
