use Rattle.std.proofs.Common.{refl, sym, ap, ◌∙◌, take}
use Rattle.std.proofs.lemmas.List.{take_all}
use Rattle.duty_events.specs.EndedTours.{last_tour}
use Rattle.duty_events.proofs.ListLemmas.{take-push, stage_of-push}
use Rattle.duty_events.proofs.EndedTourLemmas.{last_tour-nil, last_tour-push, last_begun-push}
use Rattle.duty_events.proofs.LastTourLemmas.{last_tour-ends, last_tour-range}
use Rattle.duty_events.proofs.ended_tours.last_tour.Goals as goal

pub loop-event-init : goal.loop-event-init
loop-event-init c = record { last = sym last_tour-nil; start = refl; stage = refl }

pub loop-event-preserved : goal.loop-event-preserved
loop-event-preserved c =
    let kept = c.loop-event.invariant in
    let old = take c.loop-event.event-index c.args.events.now in
    let e = c.event-item.result in
    rw (take-push c.args.events.now c.loop-event.event-index e c.loop-event-test.true c.event-item.is) (record {
      last = rw (c.or-last.ensures, c.ended.ensures, kept.stage, kept.start, kept.last) (sym (last_tour-push old e));
      start = rw (c.begun-start.ensures, kept.stage, kept.start) (sym (last_begun-push old e));
      stage = rw (c.after-stage.ensures, kept.stage) (sym (stage_of-push old e));
    })

pub returns : goal.returns
returns c =
    let value = c.loop-event.invariant.last ∙ ap last_tour (take_all c.loop-event.event-index c.args.events.now c.loop-event-test.false) in
    record { value = value; ends = λ lawful. last_tour-ends c.args.events.now c.loop-event.last lawful value; range = λ lawful. last_tour-range c.args.events.now c.loop-event.last lawful value }
