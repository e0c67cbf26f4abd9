use Rattle.std.proofs.Common.{◌≡◌, ◌+◌, ◌++◌, ◌∷◌, [], refl, sym, ap, take, ◌∙◌, arith}
use Rattle.std.proofs.lemmas.List.{take_all}
use Rattle.duty_events.specs.Asked.{asked_minutes}
use Rattle.duty_events.proofs.ListLemmas.{comes, last_event-push}
use Rattle.duty_events.proofs.AskedLemmas.{asked_minutes-push, asked_minutes-nil, asked_minutes-most}
use Rattle.duty_events.proofs.asked.Asked.count.Goals as goal

pub loop-event-init : goal.loop-event-init
loop-event-init c = record { total = sym (asked_minutes-nil c.args.self.now c.args.first c.args.many); before = refl }

pub overflow_add-total-in-loop-event : goal.overflow_add-total-in-loop-event
overflow_add-total-in-loop-event c =
    let asked = c.args.self.now in
    let kept = c.loop-event.invariant in
    let old = take c.loop-event.event-index c.args.events.now in
    let e = c.event-item.result in
    let h = comes c.args.events.now c.loop-event.event-index e c.requires.lawful c.loop-event-test.true c.event-item.is in
    let total : c.loop-event.total + (c.between.result + c.own.result) ≡ asked_minutes asked (old ++ e ∷ []) c.args.first c.args.many =
    rw (kept.total, c.between.ensures, c.own.ensures, kept.before) (sym (asked_minutes-push asked old e h.lawful h.next c.args.first c.args.many)) in
    omega (arith, total, asked_minutes-most asked (old ++ e ∷ []) c.args.first c.args.many, c.ranges.many.fits)

pub loop-event-preserved : goal.loop-event-preserved
loop-event-preserved c =
    let kept = c.loop-event.invariant in
    let old = take c.loop-event.event-index c.args.events.now in
    let e = c.event-item.result in
    let h = comes c.args.events.now c.loop-event.event-index e c.requires.lawful c.loop-event-test.true c.event-item.is in
    rw h.is (record {
      total =
          rw (kept.total, c.between.ensures, c.own.ensures, kept.before) (sym (asked_minutes-push c.args.self.now old e h.lawful h.next c.args.first c.args.many));
      before = sym (last_event-push old e);
    })

pub returns-clause-value : goal.returns-clause-value
returns-clause-value c = c.loop-event.invariant.total ∙ ap (λ xs. asked_minutes c.args.self.now xs c.args.first c.args.many) (take_all c.loop-event.event-index c.args.events.now c.loop-event-test.false)

pub returns-clause-most : goal.returns-clause-most
returns-clause-most c =
    omega (arith, c.loop-event.invariant.total, asked_minutes-most c.args.self.now (take c.loop-event.event-index c.args.events.now) c.args.first c.args.many)
