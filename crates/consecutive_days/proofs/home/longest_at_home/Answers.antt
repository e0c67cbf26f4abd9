use Rattle.std.proofs.Common.{◌≡◌, nat_le, ◌≤◌, ◌++◌, ◌∷◌, [], refl, sym, ap, ◌∙◌, take, subst, arith}
use Rattle.std.proofs.lemmas.List.{take_all}
use Rattle.duty_events.specs.Allowed.{first_minute, last_minute}
use Rattle.duty_events.specs.Lists.{stage_of, last_event, reached}
use Rattle.duty_events.proofs.ListLemmas.{comes, stage_of-push, last_event-push}
use Rattle.duty_events.proofs.EventLemmas.{follows-reached}
use Rattle.duty_events.proofs.PlaceLemmas.{place_of-nil, place_of-behind}
use Rattle.duty_events.specs.Places.{place_behind}
use Rattle.duty_events.specs.Stretch.{has_stretch}
use Rattle.duty_events.specs.Gauge.{Tells}
use Rattle.consecutive_days.specs.Days.{is_off_at_home}
use Rattle.consecutive_days.proofs.HomeLemmas.{IsAt, at_home-stays, at_home-until, at_home-own, at_home-behind}
use Rattle.consecutive_days.proofs.home.longest_at_home.Goals as goal

pub loop-event-init : goal.loop-event-init
loop-event-init c = record {
  tells = c.new-gauge.ensures.tells _;
  until = omega (arith, c.new-gauge.ensures.until);
  place = λ t low. place_of-nil c.args.home t;
  stage = refl;
  before = refl;
}

pub loop-event-preserved : goal.loop-event-preserved
loop-event-preserved c =
    let home = c.args.home in
    let old = take c.loop-event.event-index c.args.events.now in
    let e = c.event-item.result in
    let kept = c.loop-event.invariant in
    let h = comes c.args.events.now c.loop-event.event-index e c.requires c.loop-event-test.true c.event-item.is in
    let was = is_off_at_home old home in
    let now = is_off_at_home (old ++ e ∷ []) home in
    let order : reached (last_event old) ≤ first_minute e = follows-reached (last_event old) (stage_of old) e h.next in
    let whole = h.next.whole in
    let latest = ap reached (last_event-push old e) in
    let first : c.number-first.result ≡ first_minute e = c.number-first.ensures.value ∙ c.first_minute.ensures in
    let last : c.number-last.result ≡ last_minute e = c.number-last.ensures.value ∙ c.last_minute.ensures.value in
    let passed =
    c.pass-gauge.ensures.tells was now c.args.from kept.tells
    (λ t low. at_home-stays old e h.lawful h.next home t (omega (arith, low, kept.until)))
    (λ t low high. at_home-until old e h.lawful h.next home c.loop-event.place kept.place t (omega (arith, low, high, kept.until, c.min.ensures)) (omega (arith, high, c.min.ensures, first))
    ∙ rw (c.is_at_home.ensures, c.kind_until-kind.ensures, c.place_until-here.ensures, kept.stage, kept.before) refl)
    in
    rw h.is (record {
      tells =
          c.pass-gauge-in-loop-event.ensures.tells now now c.args.from passed (λ t low. refl)
          (λ t low high. at_home-own old e h.lawful h.next home t (omega (arith, low, high, c.pass-gauge.ensures.until, c.min.ensures, c.min-in-loop-event.ensures, first)) (omega (arith, high, c.min-in-loop-event.ensures, last)));
      until = omega (arith, c.pass-gauge-in-loop-event.ensures.until, c.pass-gauge.ensures.until, kept.until, c.min.ensures, c.min-in-loop-event.ensures, first, last, latest, order, whole);
      place = λ t late. let behind : last_minute e ≤ t = omega (arith, late, latest) in
          place_of-behind old e h.lawful h.next home t behind ∙ ap (place_behind e) (kept.place t (omega (arith, behind, order, whole))) ∙ sym c.place_behind-place.ensures;
      stage = rw (c.after-stage.ensures, kept.stage) (sym (stage_of-push old e));
      before = sym (last_event-push old e);
    })

pub returns : goal.returns
returns c = λ many some.
    let es = c.args.events.now in
    let home = c.args.home in
    let kept = c.loop-event.invariant in
    let whole = take_all c.loop-event.event-index es c.loop-event-test.false in
    let at : IsAt es home c.loop-event.place = subst (λ xs. IsAt xs home c.loop-event.place) whole kept.place in
    let before = kept.before ∙ ap last_event whole in
    let reached_is = ap (λ xs. reached (last_event xs)) whole in
    let tells : Tells (is_off_at_home es home) c.args.from c.pass.result =
    c.pass.ensures.tells (is_off_at_home es home) (is_off_at_home es home) c.args.from (subst (λ xs. Tells (is_off_at_home xs home) c.args.from c.loop-event.gauge) whole kept.tells)
    (λ t low. refl)
    (λ t low high. at_home-behind es home c.loop-event.place c.requires at t (omega (arith, low, high, kept.until, reached_is))
    ∙ rw (c.is_at_home-2.ensures, c.kind_behind-kind.ensures, before) refl) in
    let until : c.pass.result.until ≡ c.args.to = omega (arith, c.pass.ensures.until, kept.until, c.number-to.ensures.value) in
    subst (λ u. nat_le many c.longest.result ≡ has_stretch (is_off_at_home es home) many c.args.from u) until (c.longest.ensures.stretch (is_off_at_home es home) c.args.from many tells some)
