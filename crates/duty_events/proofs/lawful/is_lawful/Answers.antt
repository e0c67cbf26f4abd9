use Rattle.std.proofs.Common.{refl, sym, ap, subst, take}
use Rattle.std.specs.Option.{option_map}
use Rattle.std.proofs.lemmas.Bool.{false≢true}
use Rattle.std.proofs.lemmas.Bool.Decides.{not_from_Decides}
use Rattle.std.proofs.lemmas.List.{take_all}
use Rattle.duty_events.specs.Allowed.{last_minute}
use Rattle.duty_events.specs.Lists.{IsLawful}
use Rattle.duty_events.proofs.ListLemmas.{take-push, stage_of-push, last_event-push, lawful-push, lawful-here}
use Rattle.duty_events.proofs.lawful.is_lawful.Goals as goal

pub loop-event-preserved : goal.loop-event-preserved
loop-event-preserved c =
    let kept = c.loop-event.invariant in
    let old = take c.loop-event.event-index c.args.events.now in
    let e = c.event-item.result in
    rw (take-push c.args.events.now c.loop-event.event-index e c.loop-event-test.true c.event-item.is) (record {
      stage = rw (c.after-stage.ensures, kept.stage) (sym (stage_of-push old e));
      last = rw c.last_minute.ensures.value (sym (ap (option_map last_minute) (last_event-push old e)));
      lawful = lawful-push old e kept.lawful (rw (sym kept.stage, sym kept.last) (c.may_follow.ensures.decides.0 c.if-not-may_follow.false));
    })

pub returns-then-not-may_follow : goal.returns-then-not-may_follow
returns-then-not-may_follow c =
    let kept = c.loop-event.invariant in
    let not_next = not_from_Decides c.may_follow.result c.may_follow.ensures.decides c.if-not-may_follow.true in (
      λ no. absurd (false≢true no),
      λ lawful. absurd (not_next (rw (kept.stage, kept.last) (lawful-here c.args.events.now c.loop-event.event-index c.event-item.result lawful c.loop-event-test.true c.event-item.is))),
    )

pub returns : goal.returns
returns c = (λ yes. subst IsLawful (take_all c.loop-event.event-index c.args.events.now c.loop-event-test.false) c.loop-event.invariant.lawful, λ lawful. refl)
