use Rattle.std.proofs.Common.{◌≡◌, ◌+◌, ◌<◌, ◌^◌, true, false, [], ◌∷◌, ◌++◌, refl, sym, ap, ◌∙◌, take, arith}
use Rattle.duty_events.proofs.ListLemmas.{comes, stage_of-push}
use Rattle.desk_base.specs.Day.{day_of}
use Rattle.duty_events.specs.Allowed.{first_minute}
use Rattle.duty_events.specs.Lists.{stage_of}
use Rattle.duty_events.specs.MinuteKind.{begins}
use Rattle.consecutive_days.specs.Run.{run_days, last_start}
use Rattle.consecutive_days.specs.Steps.{last_day}
use Rattle.consecutive_days.proofs.StartLemmas.{last_start-nil, run_days-nil, last_start-push, run_days-push, last_day-order, run_days-most, run_days-is}
use Rattle.std.proofs.lemmas.List.{take_all}
use Rattle.consecutive_days.proofs.run.last_run.Goals as goal
use Rattle.consecutive_days.proofs.run.last_run.Goals.{then-begins, else-begins}

pub loop-event-init : goal.loop-event-init
loop-event-init c = record { days = sym run_days-nil; last = rw last_start-nil refl; stage = refl }

pub loop-event-preserved : goal.loop-event-preserved
loop-event-preserved c =
    let kept = c.loop-event.invariant in
    let old = take c.loop-event.event-index c.args.events.now in
    let e = c.event-item.result in
    let h = comes c.args.events.now c.loop-event.event-index e c.requires c.loop-event-test.true c.event-item.is in
    let begun : c.begins.result ≡ begins (stage_of old) e = c.begins.ensures ∙ ap (λ s. begins s e) kept.stage in
    let both : (c.if-begins.days ≡ run_days (old ++ e ∷ [])) × (c.if-begins.last ≡ last_day (last_start (old ++ e ∷ []))) =
    elim c.if-begins.branch [
      | then-begins w ↦
          let is : begins (stage_of old) e ≡ true = sym begun ∙ w.if-begins.true in
          let day : w.number-day.result ≡ day_of (first_minute e) = w.number-day.ensures.value ∙ w.of.ensures.value ∙ ap day_of w.first_minute.ensures in
          let few : c.loop-event.days + 1 < 2 ^ 32 =
          omega (arith, kept.days, run_days-most old h.lawful, last_day-order old e h.lawful h.next, day, w.number-day.ensures.range) in (
            rw (w.days-is, w.next_run-days.ensures few, kept.days, kept.last, day) (sym (rw is at (run_days-push old e h.lawful h.next))),
            w.last-is ∙ day ∙ ap last_day (sym (rw is at (last_start-push old e))),
          )
      | else-begins w ↦ let is : begins (stage_of old) e ≡ false = sym begun ∙ w.if-begins.false in (
        w.days-is ∙ kept.days ∙ sym (rw is at (run_days-push old e h.lawful h.next)),
        w.last-is ∙ kept.last ∙ ap last_day (sym (rw is at (last_start-push old e))),
      )
    ] in
    rw h.is (record { days = both.0; last = both.1; stage = rw (c.after-stage.ensures, kept.stage) (sym (stage_of-push old e)) })

pub returns : goal.returns
returns c =
    let es = c.args.events.now in
    let kept = c.loop-event.invariant in
    let whole = take_all c.loop-event.event-index es c.loop-event-test.false in
    let days : c.loop-event.days ≡ run_days es = kept.days ∙ ap run_days whole in
    record { days = days; run = rw days (run_days-is es c.requires); last = kept.last ∙ ap (λ xs. last_day (last_start xs)) whole }
