use Rattle.std.proofs.Common.{ℕ, nat_lt, if◌then◌else◌, rules}
use Rattle.desk_model.specs.declared.reply.Reply.{Reply}
use Rattle.desk_model.specs.declared.reply.Reply.TheVariants as reply
use Rattle.desk_model.specs.declared.offer.Offer.{Offer}
use Rattle.desk_answers.proofs.settle_answer.accept_answer.Goals as goal

-- what the offer gives
abbrev rest : ℕ → ℕ → Offer → Reply
rest moment report offer = if nat_lt report moment then reply.Lapsed report else reply.Done

pub returns-in-Err : goal.returns-in-Err
returns-in-Err g c h tells = c.in-Err.ensures.answer h tells (rest c.args.moment)

pub returns-then-lt : goal.returns-then-lt
returns-then-lt g c h tells = rw (← c.in-Ok.ensures.answer h tells (rest c.args.moment)) (search rules)

pub returns-else-lt : goal.returns-else-lt
returns-else-lt g c h tells = rw (← c.in-Ok.ensures.answer h tells (rest c.args.moment)) (search rules)
