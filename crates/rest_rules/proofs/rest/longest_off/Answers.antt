use Rattle.std.proofs.Common.{◌≡◌, nat_le, ◌≤◌, ◌++◌, ◌∷◌, min, [], take, refl, sym, subst, ap, ◌∙◌, arith}
use Rattle.std.proofs.lemmas.List.{take_all}
use Rattle.duty_events.specs.Stretch.{has_stretch}
use Rattle.duty_events.specs.Gauge.{Tells}
use Rattle.duty_events.specs.Allowed.{first_minute, last_minute}
use Rattle.duty_events.specs.Lists.{last_event, reached, stage_of}
use Rattle.duty_events.specs.MinuteKind.{is_off_duty}
use Rattle.duty_events.proofs.ListLemmas.{comes, last_event-push}
use Rattle.duty_events.proofs.EventLemmas.{follows-reached, kind_of-stays, kind_of-until, kind_of-within, kind_of-behind}
use Rattle.rest_rules.specs.Rest.{is_off}
use Rattle.rest_rules.proofs.rest.longest_off.Goals as goal

pub loop-event-init : goal.loop-event-init
loop-event-init c = record {
  until = omega (arith, c.new-gauge.ensures.until);
  tells = c.new-gauge.ensures.tells (is_off []);
  before = refl;
}

pub loop-event-preserved : goal.loop-event-preserved
loop-event-preserved c =
    let es = c.args.events.now in
    let i = c.loop-event.event-index in
    let e = c.event-item.result in
    let kept = c.loop-event.invariant in
    let h = comes es i e c.requires c.loop-event-test.true c.event-item.is in
    let old = take i es in
    let now = is_off (old ++ e ∷ []) in
    let order : reached (last_event old) ≤ first_minute e = follows-reached (last_event old) (stage_of old) e h.next in
    let first : c.min-first.result ≡ min (first_minute e) c.args.to = omega (arith, c.min-first.ensures, c.number.ensures.value, c.first_minute.ensures) in
    let last : c.min-last.result ≡ min (last_minute e) c.args.to = omega (arith, c.min-last.ensures, c.number-in-loop-event.ensures.value, c.last_minute.ensures.value) in
    let passed =
    c.pass.ensures.tells (is_off old) now c.args.from kept.tells
    (λ t early. ap is_off_duty (kind_of-stays old e h.lawful h.next t (omega (arith, early, kept.until))))
    (λ t from to. rw (c.is_off_duty.ensures, c.kind_until.ensures, kept.before) (ap is_off_duty (kind_of-until old e h.lawful h.next t (omega (arith, from, kept.until, to, first)) (omega (arith, to, first)))))
    in
    rw h.is (record {
      until = omega (arith, c.pass-gauge.ensures.until, c.pass.ensures.until, kept.until, first, last, order, h.next.whole, ap reached (last_event-push old e));
      tells =
          c.pass-gauge.ensures.tells now now c.args.from passed (λ t early. refl)
          (λ t from to. ap is_off_duty (kind_of-within old e h.lawful h.next t (omega (arith, from, c.pass.ensures.until, first, to, last)) (omega (arith, to, last))));
      before = sym (last_event-push old e);
    })

pub returns : goal.returns
returns c many some =
    let es = c.args.events.now in
    let kept = c.loop-event.invariant in
    let whole = take_all c.loop-event.event-index es c.loop-event-test.false in
    let until : c.loop-event.gauge.until ≡ min (reached (last_event es)) c.args.to = kept.until ∙ ap (λ xs. min (reached (last_event xs)) c.args.to) whole in
    let before = kept.before ∙ ap last_event whole in
    let tells =
    c.pass-2.ensures.tells (is_off es) (is_off es) c.args.from (subst (λ xs. Tells (is_off xs) c.args.from c.loop-event.gauge) whole kept.tells) (λ t early. refl)
    (λ t from to. rw (c.is_off_duty-2.ensures, c.kind_behind.ensures, before) (ap is_off_duty (kind_of-behind es c.requires t (omega (arith, from, until, to)))))
    in
    let end : c.pass-2.result.until ≡ c.args.to = omega (arith, c.pass-2.ensures.until, until) in
    subst (λ u. nat_le many c.longest.result ≡ has_stretch (is_off es) many c.args.from u) end (c.longest.ensures.stretch (is_off es) c.args.from many tells some)
