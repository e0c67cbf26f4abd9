-- What one event more makes of the days in a row, and where a tour ends that it ends.
use Rattle.std.proofs.Common.{◌≡◌, ℕ, ◌≤◌, Bool, true, false, cond, Option, None, Some, IfSome, List, [], ◌∷◌, ◌++◌, refl, sym, subst, ap, ◌∙◌, arith}
use Rattle.desk_base.specs.Day.{day_of}
use Rattle.duty_events.specs.declared.event.Event.{Event}
use Rattle.duty_events.specs.declared.event.Event.TheVariants as event
use Rattle.duty_events.specs.declared.stage.Stage.{Stage}
use Rattle.duty_events.specs.declared.stage.Stage.TheVariants as stage
use Rattle.duty_events.specs.declared.tour.Tour.{Tour}
use Rattle.duty_events.specs.Allowed.{first_minute}
use Rattle.duty_events.specs.EndedTours.{ended, last_begun}
use Rattle.duty_events.specs.Lists.{IsNext, IsLawful, stage_of, last_event, reached}
use Rattle.duty_events.specs.MinuteKind.{begins}
use Rattle.duty_events.specs.Places.{tour_end}
use Rattle.duty_events.proofs.EventLemmas.{follows-reached}
use Rattle.duty_events.proofs.PlaceLemmas.{IsSince, since_of}
use Rattle.consecutive_days.specs.declared.run.Run.{Run}
use Rattle.consecutive_days.specs.Run.{run_days, last_start}
use Rattle.consecutive_days.specs.Steps.{last_day, next_run, IsRunOf}
use Rattle.person_clock.specs.Rest.{end_after}

-- the days in a row, where a tour begins at the event or not
pub counts-push : (es : List Event) (e : Event) (here : Bool) (was new : Run) (day : ℕ) → here ≡ begins (stage_of es) e → IsRunOf was es → day ≡ day_of (first_minute e)
    → (here ≡ false → new ≡ was) → (here ≡ true → new.days ≡ next_run was.days was.last day) → (here ≡ true → new.last ≡ day)
    → run_days (es ++ e ∷ []) ≡ cond (begins (stage_of es) e) (next_run (run_days es) (last_day (last_start es)) (day_of (first_minute e))) (run_days es)
    → last_start (es ++ e ∷ []) ≡ cond (begins (stage_of es) e) (Some (first_minute e)) (last_start es) → IsRunOf new (es ++ e ∷ [])
counts-push es e true was new day here run day_is stay days last pushed start = record {
  days = days refl ∙ rw (run.days, run.last, day_is) (sym (rw (sym here) at pushed));
  last = last refl ∙ day_is ∙ ap last_day (sym (rw (sym here) at start));
}
counts-push es e false was new day here run day_is stay days last pushed start = record {
  days = ap (λ r. r.days) (stay refl) ∙ run.days ∙ sym (rw (sym here) at pushed);
  last = ap (λ r. r.last) (stay refl) ∙ run.last ∙ ap last_day (sym (rw (sym here) at start));
}

-- a tour ends no sooner than the latest minute before the event that ends it, and by that event
abbrev IsWithin : ℕ → ℕ → Tour → Type 0
IsWithin from to tour = (from ≤ tour.end) × (tour.end ≤ to)

within : (s : Stage) (m t : ℕ) → IsSince s m → m ≤ t → (m ≤ tour_end s t) × (tour_end s t ≤ t)
within (stage.Interim k since at) m t is order = (omega (arith, is), omega (arith, is, order))
within s m t is order = (order, omega arith)

ended-within : (es : List Event) (e : Event) → IsLawful es → IsNext es e → IfSome (ended (stage_of es) (last_begun es) e) (IsWithin (reached (last_event es)) (first_minute e))
ended-within es e lawful next = go (last_begun es) e next
  where
    go : (start : Option ℕ) (e : Event) → IsNext es e → IfSome (ended (stage_of es) start e) (IsWithin (reached (last_event es)) (first_minute e))
    go None e next = tt
    go (Some k) (event.Final t place) next =
        within (stage_of es) (reached (last_event es)) t (since_of es lawful) (follows-reached (last_event es) (stage_of es) (event.Final t place) next)
    go (Some k) e next = tt

-- so a gauge that begins there stands between the two
pub end-within : (es : List Event) (e : Event) (o : Option Tour) → IsLawful es → IsNext es e → o ≡ ended (stage_of es) (last_begun es) e
    → (reached (last_event es) ≤ end_after (reached (last_event es)) o) × (end_after (reached (last_event es)) o ≤ first_minute e)
end-within es e o lawful next is = go o (subst (λ x. IfSome x (IsWithin (reached (last_event es)) (first_minute e))) (sym is) (ended-within es e lawful next))
  where
    go : (o : Option Tour) → IfSome o (IsWithin (reached (last_event es)) (first_minute e))
        → (reached (last_event es) ≤ end_after (reached (last_event es)) o) × (end_after (reached (last_event es)) o ≤ first_minute e)
    go None tour = (omega arith, follows-reached (last_event es) (stage_of es) e next)
    go (Some x) tour = tour
