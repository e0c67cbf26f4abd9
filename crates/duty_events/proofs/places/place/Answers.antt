use Rattle.std.proofs.Common.{refl, sym, ap, ◌∙◌, take}
use Rattle.std.proofs.lemmas.List.{take_all}
use Rattle.duty_events.specs.Places.{place_of}
use Rattle.duty_events.proofs.ListLemmas.{take-push, stage_of-push}
use Rattle.duty_events.proofs.PlaceLemmas.{place_of-nil, place_of-push}
use Rattle.duty_events.proofs.places.place.Goals as goal

pub loop-event-init : goal.loop-event-init
loop-event-init c = record { found = sym (place_of-nil c.args.home c.args.at); stage = refl }

pub loop-event-preserved : goal.loop-event-preserved
loop-event-preserved c =
    let kept = c.loop-event.invariant in
    let old = take c.loop-event.event-index c.args.events.now in
    let e = c.event-item.result in
    rw (take-push c.args.events.now c.loop-event.event-index e c.loop-event-test.true c.event-item.is) (record {
      found = rw (c.place_by-found.ensures, c.end_by-end.ensures, kept.found, kept.stage) (sym (place_of-push old e c.args.home c.args.at));
      stage = rw (c.after-stage.ensures, kept.stage) (sym (stage_of-push old e));
    })

pub returns : goal.returns
returns c = c.loop-event.invariant.found ∙ ap (λ xs. place_of xs c.args.home c.args.at) (take_all c.loop-event.event-index c.args.events.now c.loop-event-test.false)
