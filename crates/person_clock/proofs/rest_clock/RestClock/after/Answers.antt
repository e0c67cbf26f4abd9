use Rattle.std.proofs.Common.{◌≡◌, ◌-◌, ◌≤◌, ◌<◌, [], ◌∷◌, ◌++◌, sym, subst, ap, ◌∙◌, arith}
use Rattle.duty_events.specs.Allowed.{first_minute, last_minute}
use Rattle.duty_events.specs.Between.{kind_until}
use Rattle.duty_events.specs.During.{kind_during}
use Rattle.duty_events.specs.EndedTours.{last_tour, end_of}
use Rattle.duty_events.specs.Lists.{stage_of, last_event, reached}
use Rattle.duty_events.specs.MinuteKind.{is_worked, is_off_duty}
use Rattle.duty_events.proofs.DuringLemmas.{kind_during-is}
use Rattle.duty_events.proofs.EventLemmas.{follows-reached, kind_of-stays, kind_of-until, kind_of-within}
use Rattle.duty_events.proofs.ListLemmas.{lawful-push, last_event-push}
use Rattle.rest_rules.specs.OffFrom.{off_from, end_after}
use Rattle.rest_rules.specs.Rest.{is_off}
use Rattle.rest_rules.proofs.OffFromLemmas.{off_from-is, off_from-most, off_from-push}
use Rattle.person_clock.specs.Rest.{GaugesOff, excess_after}
use Rattle.duty_events.proofs.GaugeLemmas.{tells-same}
use Rattle.person_clock.specs.Clock.{minute_of}
use Rattle.person_clock.proofs.RestLemmas.{minute_of-latest, off-known, worked-not_off, after-least, idle-until, last_end-most, last_end-push, ended-late, excess-push}
use Rattle.person_clock.proofs.rest_clock.RestClock.after.Goals as goal

pub returns : goal.returns
returns c es lawful next at came tour sum rest =
    let e = c.args.event.now in
    let o = last_event es in
    let now = es ++ e ∷ [] in
    let start = end_of (last_tour es) in
    let order : reached o ≤ first_minute e = follows-reached o (stage_of es) e next in
    let ends = last_end-most es lawful in
    let first : c.first_minute-first.result ≡ first_minute e = c.first_minute-first.ensures in
    let last : c.last_minute.result ≡ last_minute e = c.last_minute.ensures.value in
    let latest : c.unwrap_or.result ≡ reached o = c.unwrap_or.ensures ∙ ap minute_of came ∙ minute_of-latest o in
    let work : c.is_worked-is_worked.result ≡ is_worked (kind_until o e) = c.is_worked-is_worked.ensures ∙ ap is_worked (c.kind_during.ensures ∙ ap (λ s. kind_during s e) at ∙ kind_during-is es lawful e) in
    let one : c.with_minutes.result.off_from ≡ end_after (off_from es) (is_worked (kind_until o e)) (reached o) (first_minute e) = rw (work, latest, first, rest.since) at c.with_minutes.ensures.since in
    let most = after-least (off_from es) (is_worked (kind_until o e)) (reached o) (first_minute e) (off_from-most es) order in
    let two : c.with_minutes-2.result.off_from ≡ off_from now = rw (first, last, one) at c.with_minutes-2.ensures.since ∙ sym (off_from-push es e lawful next) in
    let gauges : GaugesOff (is_off now) start c.args.self = record {
      until = rest.gauges.until;
      tells = tells-same (is_off es) (is_off now) start c.args.self.off rest.gauges.tells
          (λ t early. ap is_off_duty (kind_of-stays es e lawful next t (omega (arith, early, rest.gauges.until, rest.since, off_from-most es, ends))));
    } in
    let before : GaugesOff (is_off now) start c.with_minutes.result =
    c.with_minutes.ensures.gauges (is_off now) start gauges (omega (arith, latest, ends)) (omega (arith, latest, rest.since, off_from-most es))
    (λ t from to.
    let early : t < reached o = omega (arith, to, latest) in
    ap is_off_duty (kind_of-stays es e lawful next t early) ∙ off-known es lawful t early ((off_from-is es lawful).after t (omega (arith, from, rest.since))))
    (λ t from to is.
    ap is_off_duty (kind_of-until es e lawful next t (omega (arith, from, latest)) (omega (arith, to, first))) ∙ worked-not_off (kind_until o e) (sym work ∙ is)) in
    let own : GaugesOff (is_off now) start c.with_minutes-2.result =
    c.with_minutes-2.ensures.gauges (is_off now) start before (omega (arith, first, ends, order)) (omega (arith, first, one, most.1))
    (λ t from to.
    off-known now (lawful-push es e lawful next) t (omega (arith, to, first, next.whole, ap reached (last_event-push es e)))
    (idle-until es e lawful next t (omega (arith, from, one)) (omega (arith, to, first))))
    (λ t from to is. ap is_off_duty (kind_of-within es e lawful next t (omega (arith, from, first)) (omega (arith, to, last)))) in
    record {
      since = c.with_end.ensures.since ∙ two;
      over = c.with_end.ensures.over
          ∙ ap (λ x. excess_after x c.args.tour.now c.args.sum) (c.with_minutes-2.ensures.over ∙ c.with_minutes.ensures.over ∙ rest.over)
          ∙ excess-push es e c.args.tour.now c.args.sum tour (c.excess_when_an_event_comes.ensures.stay es e lawful next)
          (λ t is. c.excess_when_an_event_comes.ensures.ended es e lawful next t is ∙ ap (λ n. n - 720) (sym sum));
      gauges = subst (λ end. GaugesOff (is_off now) end c.with_end.result) (last_end-push es e c.args.tour.now tour)
          (c.with_end.ensures.gauges (is_off now) start own (rw two (ended-late es e c.args.tour.now lawful next tour)));
    }
