use Rattle.std.proofs.Common.{inl, true, take, refl, sym, subst, ap, ◌∙◌}
use Rattle.desk_base.specs.Minute.{IsInYears}
use Rattle.duty_events.specs.Lists.{reached}
use Rattle.duty_events.proofs.ListLemmas.{comes, last_event-push}
use Rattle.rest_rules.specs.OffFrom.{IsOffFrom}
use Rattle.rest_rules.proofs.OffFromLemmas.{end_after-range, off_from-nil, off_from-push, off_from-whole, off_from-is}
use Rattle.rest_rules.proofs.off_since.off_from.Goals as goal

pub loop-event-init : goal.loop-event-init
loop-event-init c = record { end = sym off_from-nil; range = inl refl; latest = refl; before = refl }

pub loop-event-preserved : goal.loop-event-preserved
loop-event-preserved c =
    let es = c.args.events.now in
    let i = c.loop-event.event-index in
    let e = c.event-item.result in
    let h = comes es i e c.requires c.loop-event-test.true c.event-item.is in
    let first : IsInYears c.first_minute-first.result = rw c.first_minute-first.ensures h.next.first_in in
    let last : IsInYears c.last_minute-last.result = rw c.last_minute-last.ensures.value h.next.last_in in
    let kept = c.loop-event.invariant in rw h.is (record {
      end =
          rw (c.end_after-end-in-loop-event.ensures, c.end_after-end.ensures, c.is_worked.ensures, c.kind_until.ensures, c.first_minute-first.ensures, c.last_minute-last.ensures.value, kept.end, kept.latest, kept.before)
          (sym (off_from-push (take i es) e h.lawful h.next));
      range =
          rw c.end_after-end-in-loop-event.ensures (end_after-range c.end_after-end.result true c.first_minute-first.result c.last_minute-last.result last (rw c.end_after-end.ensures (end_after-range c.loop-event.end c.is_worked.result c.loop-event.latest c.first_minute-first.result first kept.range)));
      latest = c.last_minute-last.ensures.value ∙ sym (ap reached (last_event-push (take i es) e));
      before = sym (last_event-push (take i es) e);
    })

pub returns-clause-value : goal.returns-clause-value
returns-clause-value c = c.loop-event.invariant.end ∙ off_from-whole c.args.events.now c.loop-event.event-index c.loop-event-test.false

pub returns-clause-minutes : goal.returns-clause-minutes
returns-clause-minutes c =
    let value = c.loop-event.invariant.end ∙ off_from-whole c.args.events.now c.loop-event.event-index c.loop-event-test.false in
    subst (IsOffFrom c.args.events.now) (sym value) (off_from-is c.args.events.now c.requires)
