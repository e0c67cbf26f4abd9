use Rattle.std.proofs.Common.{ℕ, nat_lt, if◌then◌else◌, rules}
use Rattle.desk_model.specs.declared.reply.Reply.{Reply}
use Rattle.desk_model.specs.declared.reply.Reply.TheVariants as reply
use Rattle.desk_model.specs.declared.offer.Offer.{Offer}
use Rattle.desk_model.specs.statements.Opening.{OpeningValue}
use Rattle.desk_model.specs.offers.Offers.{deadline}
use Rattle.desk_answers.proofs.settle_answer.no_answer.Goals as goal

-- what the offer gives
abbrev rest : OpeningValue → ℕ → ℕ → Offer → Reply
rest opening moment report offer = if nat_lt moment (deadline opening offer) then reply.EarlyNoAnswer (deadline opening offer) else reply.Done

pub returns-in-Err : goal.returns-in-Err
returns-in-Err g c h tells = c.in-Err.ensures.answer h tells (rest h.opening c.args.moment)

pub returns-then-lt : goal.returns-then-lt
returns-then-lt g c h tells = rw (← c.in-Ok.ensures.answer h tells (rest h.opening c.args.moment)) (search rules)

pub returns-else-lt : goal.returns-else-lt
returns-else-lt g c h tells = rw (← c.in-Ok.ensures.answer h tells (rest h.opening c.args.moment)) (search rules)
