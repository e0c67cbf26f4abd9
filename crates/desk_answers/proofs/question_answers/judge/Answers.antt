use Rattle.std.proofs.Common.{rules}
use Rattle.desk_answers.proofs.AskedLemmas.{asked}
use Rattle.desk_answers.proofs.question_answers.judge.Goals as goal

pub returns-in-Some-bar-clause-answer : goal.returns-in-Some-bar-clause-answer
returns-in-Some-bar-clause-answer g c h tells v made late person rest =
    let bar = c.bar.ensures.answer h tells (asked h c.args.moment c.args.job.now v _ _ made late c.report.ensures.value c.lt.ensures c.if-lt.false) person in search rules

pub returns-in-None-clause-answer : goal.returns-in-None-clause-answer
returns-in-None-clause-answer g c h tells v made late person rest =
    let bar = c.bar.ensures.answer h tells (asked h c.args.moment c.args.job.now v _ _ made late c.report.ensures.value c.lt.ensures c.if-lt.false) person in search rules
