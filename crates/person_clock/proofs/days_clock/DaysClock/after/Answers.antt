use Rattle.std.proofs.Common.{◌≡◌, ◌+◌, ◌≤◌, ◌<◌, ◌^◌, [], ◌∷◌, ◌++◌, refl, sym, subst, ap, ◌∙◌, arith}
use Rattle.std.specs.Option.{option_or}
use Rattle.duty_events.specs.Gauge.{Tells}
use Rattle.desk_base.specs.Day.{day_of}
use Rattle.duty_events.specs.Allowed.{first_minute, last_minute}
use Rattle.duty_events.specs.EndedTours.{last_tour, end_of}
use Rattle.duty_events.specs.Lists.{stage_of, last_event, reached}
use Rattle.duty_events.specs.MinuteKind.{begins}
use Rattle.duty_events.specs.Places.{place_behind}
use Rattle.duty_events.proofs.DuringLemmas.{kind_during-is}
use Rattle.duty_events.proofs.EndedTourLemmas.{last_tour-push}
use Rattle.duty_events.proofs.EventLemmas.{follows-reached}
use Rattle.duty_events.proofs.ListLemmas.{last_event-push}
use Rattle.duty_events.proofs.PlaceLemmas.{place_of-behind}
use Rattle.consecutive_days.specs.Days.{is_away, is_off_at_home}
use Rattle.consecutive_days.proofs.HomeLemmas.{at_home-stays, at_home-until, at_home-own}
use Rattle.person_clock.specs.Rest.{end_after}
use Rattle.duty_events.proofs.GaugeLemmas.{tells-same}
use Rattle.person_clock.proofs.RestLemmas.{last_end-push}
use Rattle.person_clock.proofs.DaysLemmas.{counts-push, end-within}
use Rattle.person_clock.proofs.days_clock.DaysClock.after.Goals as goal

pub returns : goal.returns
returns c es lawful next at tour days =
    let e = c.args.event.now in
    let home = c.args.home in
    let now = es ++ e ∷ [] in
    let o = last_event es in
    let law = c.days_when_an_event_comes.ensures in
    let was = is_off_at_home es home in
    let asked = is_off_at_home now home in
    let start = end_of (last_tour es) in
    let latest = ap reached (last_event-push es e) in
    let order : reached o ≤ first_minute e = follows-reached o (stage_of es) e next in
    let whole = next.whole in
    let first : c.number-2.result ≡ first_minute e = c.number-2.ensures.value ∙ c.first_minute-first.ensures in
    let last : c.number-3.result ≡ last_minute e = c.number-3.ensures.value ∙ c.last_minute-last.ensures.value in
    let here : c.begins.result ≡ begins (stage_of es) e = c.begins.ensures ∙ ap (λ s. begins s e) at in
    let day : c.number.result ≡ day_of (first_minute e) = c.number.ensures.value ∙ c.of.ensures.value ∙ ap day_of c.first_minute-first.ensures in
    let few : c.args.self.run.days + 1 < 2 ^ 32 = omega (arith, days.counts.days, law.most es lawful, law.order es e lawful next, day, c.number.ensures.range) in
    let within = end-within es e c.args.tour.now lawful next tour in
    let until : c.since_end.result.until ≡ end_after (reached o) c.args.tour.now = c.since_end.ensures.until ∙ ap (λ u. end_after u c.args.tour.now) days.until in
    let begun : Tells asked (end_after start c.args.tour.now) c.since_end.result =
    c.since_end.ensures.tells asked start (tells-same was asked start c.args.self.at_home days.tells (λ t early. at_home-stays es e lawful next home t (omega (arith, early, days.until)))) in
    let passed : Tells asked (end_after start c.args.tour.now) c.pass.result =
    c.pass.ensures.tells asked asked (end_after start c.args.tour.now) begun (λ t early. refl)
    (λ t from to. at_home-until es e lawful next home c.args.self.place days.there t (omega (arith, from, until, within.0)) (omega (arith, to, first))
    ∙ rw (c.is_at_home-is_home.ensures, c.kind_during.ensures, c.place_until-here.ensures, at, kind_during-is es lawful e) refl) in
    let own : Tells asked (end_after start c.args.tour.now) c.pass-2.result =
    c.pass-2.ensures.tells asked asked (end_after start c.args.tour.now) passed (λ t early. refl)
    (λ t from to. at_home-own es e lawful next home t (omega (arith, from, c.pass.ensures.until, first)) (omega (arith, to, last))) in
    record {
      counts = counts-push es e c.begins.result c.args.self.run c.run_after.result c.number.result here days.counts day c.run_after.ensures.stay
          (λ is. c.run_after.ensures.days is few) c.run_after.ensures.last (law.days es e lawful next) (law.start es e);
      away = c.is_away_after.ensures (last_tour es) days.away ∙ ap (λ x. is_away (option_or x (last_tour es)) home) tour ∙ ap (λ x. is_away x home) (sym (last_tour-push es e));
      there = λ t late. let behind : last_minute e ≤ t = omega (arith, late, latest) in
          place_of-behind es e lawful next home t behind ∙ ap (place_behind e) (days.there t (omega (arith, behind, order, whole))) ∙ sym c.place_behind.ensures;
      until = omega (arith, c.pass-2.ensures.until, c.pass.ensures.until, until, within.1, first, last, whole, latest);
      tells = subst (λ end. Tells asked end c.pass-2.result) (last_end-push es e c.args.tour.now tour) own;
    }
