use Rattle.std.proofs.Common.{None, Some, false, unwrap_or, sym, ap, ◌∙◌}
use Rattle.desk_model.specs.histories.History.{history_of}
use Rattle.desk_model.specs.laws.Comes.{left_by, sent_last}
use Rattle.plain_core.proofs.MemberLemmas.{followed}
use Rattle.plain_core.proofs.order.follow.Goals as goal

pub returns-in-Some-clause-order : goal.returns-in-Some-clause-order
returns-in-Some-clause-order c o setup before =
    let put = c.unwrap_or-is_put.ensures ∙ ap (λ told. unwrap_or told false) c.puts.ensures in
    followed (history_of o c.args.before.now) c.args.entry.now c.args.board.now (Some c.in-Some.person) c.args.members.now.items c.send_last.new.members.items
    (sym (c.sends.ensures o setup) ∙ c.in-Some.is) before (c.send_last.ensures.items ∙ ap (λ is_put. sent_last is_put c.in-Some.person c.args.members.now.items) put)

pub returns-in-Some-takes_off-clause-order : goal.returns-in-Some-takes_off-clause-order
returns-in-Some-takes_off-clause-order c o setup before =
    followed (history_of o c.args.before.now) c.args.entry.now c.args.board.now None c.args.members.now.items c.take_out.new.members.items
    (sym (c.sends.ensures o setup) ∙ c.in_default.is) before
    (c.take_out.ensures.items ∙ ap (λ who. left_by who c.args.members.now.items) (sym c.in-Some-takes_off.is ∙ c.takes_off.ensures))

pub returns-in_default-takes_off-clause-order : goal.returns-in_default-takes_off-clause-order
returns-in_default-takes_off-clause-order c o setup before =
    followed (history_of o c.args.before.now) c.args.entry.now c.args.board.now None c.args.members.now.items c.args.members.now.items
    (sym (c.sends.ensures o setup) ∙ c.in_default.is) before
    (ap (λ who. left_by who c.args.members.now.items) (sym c.in_default-takes_off.is ∙ c.takes_off.ensures))
