use Rattle.std.proofs.Common.{refl, sym, ap, ◌∙◌, arith, take}
use Rattle.std.proofs.lemmas.List.{take_all}
use Rattle.std.specs.Option.{option_or}
use Rattle.desk_model.specs.histories.History.{history_of, said}
use Rattle.desk_model.specs.histories.Register.{sets_up, board_of}
use Rattle.desk_model.specs.boards.Boards.{order}
use Rattle.desk_model.proofs.ComesLemmas.{comes}
use Rattle.plain_core.proofs.PrefixLemmas.{one_more}
use Rattle.plain_core.proofs.MemberLemmas.{order-opened}
use Rattle.plain_core.proofs.order.fill.Goals as goal

pub loop-i-init : goal.loop-i-init
loop-i-init c = record {
  order = λ o. c.clear.ensures.items ∙ sym (order-opened o c.args.board.now);
  setup = λ o. refl;
  few = omega (arith, c.clear.ensures.len);
  room = c.clear.ensures.capacity;
}

pub loop-i-preserved : goal.loop-i-preserved
loop-i-preserved c =
    let es = c.args.entries.now in
    let i = c.loop-i.i in
    let e = c.index-entries-i.result in
    let b = c.args.board.now in
    record {
      order = λ o. c.follow.ensures.order o (c.loop-i.invariant.setup o) (c.loop-i.invariant.order o)
          ∙ ap (λ h. order h b) (one_more o es i e c.loop-i-test.true c.index-entries-i.is);
      setup = λ o. ap (λ h. board_of h b) (sym (one_more o es i e c.loop-i-test.true c.index-entries-i.is))
          ∙ (comes (history_of o (take i es)) e).board b
          ∙ ap (λ was. option_or was (said (sets_up b) e)) (c.loop-i.invariant.setup o)
          ∙ ap (option_or c.loop-i.setup) (sym c.sets_up.ensures)
          ∙ sym c.or-setup.ensures;
      few = omega (arith, c.follow.ensures.len, c.loop-i.invariant.few);
      room = c.follow.ensures.room ∙ c.loop-i.invariant.room;
    }

pub returns-clause-order : goal.returns-clause-order
returns-clause-order c o = c.loop-i.invariant.order o ∙ ap (λ es. order (history_of o es) c.args.board.now) (take_all c.loop-i.i c.args.entries.now c.loop-i-test.false)
