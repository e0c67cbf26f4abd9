use Rattle.std.proofs.Common.{◌≡◌, ℕ, ◌+◌, true, false, cond, [], ◌∷◌, ◌++◌, refl, sym, ap, subst, ◌∙◌}
use Rattle.duty_events.specs.Lists.{IsNext, stage_of, last_event}
use Rattle.duty_events.specs.MinuteKind.{begins}
use Rattle.duty_events.specs.Between.{minutes_between}
use Rattle.duty_events.specs.Tours.{is_in_tour, sum_so_far}
use Rattle.month_hours.specs.Steps.{capped_between}
use Rattle.tour_build.specs.LastTour.{is_on_duty, tour_count, tour_capped, in_all}
use Rattle.tour_build.specs.Runs.{AreTotals, running_of, Runs}
use Rattle.tour_build.proofs.CountLemmas.{tour_count-push, tour_count-most, tour_capped-push, tour_capped-most, sum-is}
use Rattle.tour_build.proofs.DuringLemmas.{minutes_during-is, capped_during-is}
use Rattle.tour_build.proofs.running_tour.RunningTour.apply.Goals as goal
use Rattle.tour_build.proofs.running_tour.RunningTour.apply.Goals.{then-begins, else-begins}

pub returns-clause-runs : goal.returns-clause-runs
returns-clause-runs c es runs =
    let e = c.args.event in
    let old = subst (λ v. Runs v es) (sym c.self.view_is) runs in
    let lawful = old.all.lawful in
    let next : IsNext es e = rw (runs.all.at, runs.all.came) at c.requires in
    let at = c.stage-stage.ensures ∙ old.all.at in
    let came = c.last_minute-last.ensures ∙ old.all.came in
    let here : c.begins.result ≡ begins (stage_of es) e = c.begins.ensures ∙ ap (λ s. begins s e) at in
    let count = tour_count-push is_in_tour ((refl, refl), refl) es e lawful next in
    let over = tour_capped-push es e lawful next in
    elim c.if-begins.branch [
      | then-begins w ↦
          let begun : begins (stage_of es) e ≡ true = sym here ∙ w.if-begins.true in
          subst (λ i. Runs (running_of i.window c.apply.new.self i.used_in i.capped_in) (es ++ e ∷ [])) (sym w.self-inside-is) record {
            all = c.apply.ensures es (subst (λ i. AreTotals i.totals es) (sym w.self-inside-is) old.all);
            months = w.none-self-inside.ensures c.self.inside.window (tour_count is_in_tour (es ++ e ∷ []))
                (λ x n. count x n ∙ ap (λ b. cond b 0 (tour_count is_in_tour es x n + minutes_between is_in_tour (last_event es) e x n)) begun);
            capped_months = w.none-self-inside-then-begins.ensures c.self.inside.window (tour_capped (es ++ e ∷ []))
                (λ x n. over x n ∙ ap (λ b. cond b 0 (tour_capped es x n + capped_between (last_event es) e (sum_so_far es) x n)) begun);
          }
      | else-begins w ↦
          let goes_on : begins (stage_of es) e ≡ false = sym here ∙ w.if-begins.false in
          let sum : w.sum.result ≡ sum_so_far es =
          w.sum.ensures ∙ ap (λ n. n + c.self.inside.totals.limbo) old.all.worked ∙ ap (λ n. in_all (tour_count is_on_duty es) + n) old.all.waited ∙ sum-is es lawful in
          let tour = λ (x n : ℕ). w.tour_between-worked.ensures x n ∙ minutes_during-is is_in_tour _ _ es e lawful at came x n in
          let capped = λ (x n : ℕ). w.capped_between-capped.ensures x n ∙ capped_during-is _ _ es e _ _ lawful at came sum x n in
          subst (λ i. Runs (running_of i.window c.apply.new.self i.used_in i.capped_in) (es ++ e ∷ [])) (sym w.self-inside-is) record {
            all = c.apply.ensures es (subst (λ i. AreTotals i.totals es) (sym w.self-inside-is) old.all);
            months = w.add.ensures (tour_count is_in_tour es) (tour_count is_in_tour (es ++ e ∷ [])) old.months record {
              is = λ x n. count x n ∙ ap (λ b. cond b 0 (tour_count is_in_tour es x n + minutes_between is_in_tour (last_event es) e x n)) goes_on
                  ∙ ap (λ m. tour_count is_in_tour es x n + m) (sym (tour x n));
              most = tour_count-most is_in_tour (es ++ e ∷ []);
            };
            capped_months = w.add-else-begins.ensures (tour_capped es) (tour_capped (es ++ e ∷ [])) old.capped_months record {
              is = λ x n. over x n ∙ ap (λ b. cond b 0 (tour_capped es x n + capped_between (last_event es) e (sum_so_far es) x n)) goes_on
                  ∙ ap (λ m. tour_capped es x n + m) (sym (capped x n));
              most = tour_capped-most (es ++ e ∷ []);
            };
          }
    ]
