use Rattle.desk_model.specs.declared.reply.Reply.TheVariants as reply
use Rattle.desk_answers.proofs.settle_answer.decline_answer.Goals as goal

pub returns-in-Ok : goal.returns-in-Ok
returns-in-Ok g c h tells = c.in-Ok.ensures.answer h tells (λ report offer. reply.Done)

pub returns-in-Err : goal.returns-in-Err
returns-in-Err g c h tells = c.in-Err.ensures.answer h tells (λ report offer. reply.Done)
