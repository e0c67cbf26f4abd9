use Rattle.std.proofs.Common.{◌≡◌, ◌+◌, ◌++◌, ◌∷◌, [], refl, sym, take, arith}
use Rattle.duty_events.proofs.ListLemmas.{comes, stage_of-push, last_event-push, lawful-take}
use Rattle.duty_events.proofs.TourLemmas.{sum_so_far-nil, sum_so_far-push, sum_so_far-range}
use Rattle.month_hours.specs.Capped.{capped_minutes}
use Rattle.month_hours.proofs.CappedLemmas.{capped_minutes-push, capped_minutes-most, capped_minutes-nil}
use Rattle.month_hours.proofs.limbo.capped.Goals as goal

pub loop-event-init : goal.loop-event-init
loop-event-init c = record {
  total = sym (capped_minutes-nil c.number-first.result c.minutes-many.result);
  sum = sym sum_so_far-nil;
  stage = refl;
  before = refl;
}

pub sum_after-sum-requires : goal.sum_after-sum-requires
sum_after-sum-requires c =
    omega (arith, c.loop-event.invariant.sum, sum_so_far-range (take c.loop-event.event-index c.args.events.now) (lawful-take c.args.events.now c.loop-event.event-index c.requires))

pub overflow_add-total : goal.overflow_add-total
overflow_add-total c =
    let kept = c.loop-event.invariant in
    let old = take c.loop-event.event-index c.args.events.now in
    let e = c.event-item.result in
    let first = c.number-first.result in
    let many = c.minutes-many.result in
    let h = comes c.args.events.now c.loop-event.event-index e c.requires c.loop-event-test.true c.event-item.is in
    let total : c.loop-event.total + c.capped_between-total.result ≡ capped_minutes (old ++ e ∷ []) first many =
    rw (kept.total, c.capped_between-total.ensures, kept.before, kept.sum) (sym (capped_minutes-push old e h.lawful h.next first many)) in
    omega (arith, total, capped_minutes-most (old ++ e ∷ []) first many, c.minutes-many.type_inv)

pub loop-event-preserved : goal.loop-event-preserved
loop-event-preserved c =
    let kept = c.loop-event.invariant in
    let old = take c.loop-event.event-index c.args.events.now in
    let e = c.event-item.result in
    let h = comes c.args.events.now c.loop-event.event-index e c.requires c.loop-event-test.true c.event-item.is in
    rw h.is (record {
      total =
          rw (kept.total, c.capped_between-total.ensures, kept.before, kept.sum) (sym (capped_minutes-push old e h.lawful h.next c.number-first.result c.minutes-many.result));
      sum = rw (c.sum_after-sum.ensures, kept.stage, kept.before, kept.sum) (sym (sum_so_far-push old e h.lawful h.next));
      stage = rw (c.after-stage.ensures, kept.stage) (sym (stage_of-push old e));
      before = sym (last_event-push old e);
    })

pub returns-clause-most : goal.returns-clause-most
returns-clause-most c =
    omega (arith, c.loop-event.invariant.total, capped_minutes-most (take c.loop-event.event-index c.args.events.now) c.number-first.result c.minutes-many.result, c.minutes-many.ensures.value)
