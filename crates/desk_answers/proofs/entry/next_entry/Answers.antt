use Rattle.std.proofs.Common.{ap, ◌∙◌}
use Rattle.desk_model.specs.histories.Legal.{moment}
use Rattle.desk_answers.proofs.NextLemmas.{next-is}
use Rattle.desk_answers.proofs.entry.next_entry.Goals as goal

pub returns-clause-entry : goal.returns-clause-entry
returns-clause-entry g c h tells =
    let taken = c.moment-taken.ensures h tells ∙ ap (moment h) c.minute.ensures.value in
    next-is h c.args.caller c.args.stated.now c.moment-taken.result c.answer-reply.result c.new.result taken (c.answer-reply.ensures.answer h tells taken) c.new.ensures
