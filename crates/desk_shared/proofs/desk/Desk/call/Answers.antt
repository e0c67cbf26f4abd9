use Rattle.std.proofs.Common.{refl, subst, arith}
use Rattle.desk_shared.specs.Calls.{Calls}
use Rattle.desk_shared.proofs.CallLemmas.{MayGive-next, Calls-gave}
use Rattle.desk_shared.proofs.desk.Desk.call.Goals as goal

pub give-requires-clause-book : goal.give-requires-clause-book
give-requires-clause-book g c = MayGive-next c.args.seat c.in-Ok.turn _ _ c.seat_no.result c.args.stated c.in-Ok-step.entry c.in-Ok.ensures.took c.seat_no.ensures
    c.in-Ok-step.ensures.answer c.in-Ok-step.ensures.kept c.step.ensures.room refl (omega arith)

pub returns-in-Ok-step-clause-receipt : goal.returns-in-Ok-step-clause-receipt
returns-in-Ok-step-clause-receipt g c =
    subst (λ k. Calls k.book.opening c.args.seat c.give.result c.args.stated (record { place = c.place-place.result; entry = c.in-Ok-step.entry })) (c.requires.1)
    (Calls-gave c.what_one_entry_more_makes_known.ensures.mine c.what_one_entry_more_makes_known.ensures.begins c.args.seat c.give.result c.in-Ok.turn _ _ c.seat_no.result c.place-place.result c.args.stated c.in-Ok-step.entry c.in-Ok.ensures.took c.give.ensures
    c.seat_no.ensures c.place-place.ensures c.in-Ok-step.ensures.answer c.in-Ok-step.ensures.kept c.is_legal.ensures.legal)
