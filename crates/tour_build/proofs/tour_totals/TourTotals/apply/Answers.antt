use Rattle.std.proofs.Common.{◌≡◌, ℕ, ◌+◌, ◌^◌, Bool, cond, Some, [], ◌∷◌, ◌++◌, refl, sym, ap, subst, ◌∙◌, arith}
use Rattle.std.specs.Option.{option_map}
use Rattle.duty_events.specs.Allowed.{last_minute}
use Rattle.duty_events.specs.Lists.{IsNext, stage_after, stage_of}
use Rattle.duty_events.specs.MinuteKind.{begins}
use Rattle.duty_events.specs.EndedTours.{begun}
use Rattle.duty_events.specs.Tours.{sum_so_far}
use Rattle.duty_events.proofs.EndedTourLemmas.{last_begun-push}
use Rattle.duty_events.proofs.ListLemmas.{lawful-push, stage_of-push, last_event-push}
use Rattle.month_hours.specs.Capped.{is_limbo}
use Rattle.tour_build.specs.LastTour.{is_on_duty, tour_count, in_all}
use Rattle.tour_build.specs.Runs.{AreTotals}
use Rattle.tour_build.proofs.CountLemmas.{tour_count-push, tour_count-most, tour_capped-push, tour_capped-most, sum-is}
use Rattle.tour_build.proofs.DuringLemmas.{minutes_during-is, capped_during-is}
use Rattle.tour_build.proofs.tour_totals.TourTotals.apply.Goals as goal

-- the same sum of the same numbers, or none where a tour begins
added : (b d : Bool) (x y m n : ℕ) → b ≡ d → x ≡ y → m ≡ n → cond d 0 (y + n) ≡ cond b 0 (x + m)
added b d x y m n here was more = rw (here, was, more) refl

pub returns : goal.returns
returns c es totals =
    let e = c.args.event in
    let old = subst (λ v. AreTotals v es) (sym c.self.view_is) totals in
    let next : IsNext es e = rw (totals.at, totals.came) at c.requires in
    let here : c.begins-begins.result ≡ begins (stage_of es) e = c.begins-begins.ensures ∙ ap (λ s. begins s e) old.at in
    let duty = tour_count-push is_on_duty ((refl, refl), refl) es e totals.lawful next 0 (2 ^ 28) in
    let waits = tour_count-push is_limbo ((refl, refl), refl) es e totals.lawful next 0 (2 ^ 28) in
    let over = tour_capped-push es e totals.lawful next 0 (2 ^ 28) in
    let duty_more = c.on_duty_between-on_duty.ensures 0 (2 ^ 28) ∙ minutes_during-is is_on_duty _ _ es e totals.lawful old.at old.came 0 (2 ^ 28) in
    let limbo_more = c.limbo_between-limbo.ensures 0 (2 ^ 28) ∙ minutes_during-is is_limbo _ _ es e totals.lawful old.at old.came 0 (2 ^ 28) in
    let sum : c.sum-sum.result ≡ sum_so_far es = c.sum-sum.ensures ∙ ap (λ n. n + c.args.self.now.limbo) totals.worked ∙ ap (λ n. in_all (tour_count is_on_duty es) + n) totals.waited ∙ sum-is es totals.lawful in
    let capped_more = c.capped_between-capped.ensures 0 (2 ^ 28) ∙ capped_during-is _ _ es e _ _ totals.lawful old.at old.came sum 0 (2 ^ 28) in
    record {
      lawful = lawful-push es e totals.lawful next;
      at = c.after.ensures ∙ ap (λ s. stage_after s e) old.at ∙ sym (stage_of-push es e);
      came = ap Some c.last_minute.ensures.value ∙ ap (option_map last_minute) (sym (last_event-push es e));
      start = c.begun_by.ensures ∙ ap (λ s. begun s c.args.self.now.begun e) totals.at ∙ ap (λ b. begun (stage_of es) b e) totals.start ∙ sym (last_begun-push es e);
      worked = c.summed.ensures _ (duty ∙ added _ _ _ _ _ _ here old.worked duty_more) (omega (arith, tour_count-most is_on_duty (es ++ e ∷ []) 0 (2 ^ 28)));
      waited = c.summed-2.ensures _ (waits ∙ added _ _ _ _ _ _ here old.waited limbo_more) (omega (arith, tour_count-most is_limbo (es ++ e ∷ []) 0 (2 ^ 28)));
      over = c.summed-3.ensures _ (over ∙ added _ _ _ _ _ _ here old.over capped_more) (omega (arith, tour_capped-most (es ++ e ∷ []) 0 (2 ^ 28)));
    }
