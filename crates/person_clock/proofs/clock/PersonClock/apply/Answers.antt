use Rattle.std.proofs.Common.{◌≡◌, ℕ, ◌+◌, ◌<◌, ◌^◌, [], ◌∷◌, ◌++◌, sym, ap, subst, ◌∙◌, arith}
use Rattle.std.proofs.lemmas.List.Elements.{All-append, All-cons, All-nil}
use Rattle.duty_events.specs.declared.asked.Asked.TheVariants as asked
use Rattle.duty_events.specs.Allowed.{first_minute}
use Rattle.duty_events.specs.Asked.{asked_minutes}
use Rattle.duty_events.specs.Between.{minutes_between}
use Rattle.duty_events.specs.EndedTours.{ended, last_begun}
use Rattle.duty_events.specs.Lists.{IsNext, stage_of, last_event, latest}
use Rattle.duty_events.specs.Minutes.{shared}
use Rattle.duty_events.specs.MinuteKind.{is_worked}
use Rattle.duty_events.specs.Tours.{sum_so_far}
use Rattle.duty_events.proofs.AskedLemmas.{asked_minutes-push, asked_minutes-most}
use Rattle.month_hours.specs.Capped.{is_limbo, capped_minutes}
use Rattle.month_hours.proofs.CappedLemmas.{capped_minutes-push, capped_minutes-most}
use Rattle.tour_build.specs.LastTour.{is_on_duty}
use Rattle.tour_build.specs.MonthSums.{AreSums}
use Rattle.tour_build.specs.Runs.{AreTotals}
use Rattle.tour_build.proofs.DuringLemmas.{minutes_during-is, capped_during-is}
use Rattle.tour_build.proofs.CountLemmas.{tour_count-most, sum-is}
use Rattle.person_clock.specs.Clock.{Stands, LiesIn}
use Rattle.person_clock.proofs.clock.PersonClock.apply.Goals as goal

pub returns-clause-stands : goal.returns-clause-stands
returns-clause-stands c es stands =
    let e = c.args.event in
    let now = es ++ e ∷ [] in
    let o = last_event es in
    let old = subst (λ v. Stands v es) (sym c.self.view_is) stands in
    let window = c.self.inside.window in
    let lawful = old.totals.lawful in
    let next : IsNext es e = rw (stands.totals.at, stands.totals.came) at c.requires.follows in
    let totals : AreTotals c.apply.new.self now = c.apply.ensures es old.totals in
    let came : c.last_minute-last.result ≡ latest es = c.last_minute-last.ensures ∙ old.totals.came in
    let stage : c.stage-stage.result ≡ stage_of es = c.stage-stage.ensures ∙ old.totals.at in
    let ends : c.ended_by-ended.result ≡ ended (stage_of es) (last_begun es) e =
    c.ended_by-ended.ensures ∙ ap (λ s. ended s c.self.inside.tour.begun e) old.totals.at ∙ ap (λ b. ended (stage_of es) b e) old.totals.start in
    let sum_before : c.sum-sum.result ≡ sum_so_far es = omega (arith, c.sum-sum.ensures, old.totals.worked, old.totals.waited, sum-is es lawful) in
    let few : c.apply.new.self.on_duty + c.apply.new.self.limbo < 2 ^ 32 =
    omega (arith, totals.worked, totals.waited, tour_count-most is_on_duty now 0 (2 ^ 28), tour_count-most is_limbo now 0 (2 ^ 28)) in
    let sum : c.sum_of.result ≡ sum_so_far now = omega (arith, c.sum_of.ensures few, totals.worked, totals.waited, sum-is now totals.lawful) in
    let counted = asked_minutes asked.Worked in
    let between = λ (x n : ℕ). c.worked_between.ensures x n ∙ minutes_during-is is_worked _ _ es e lawful stage came x n in
    let own = λ (x n : ℕ). ap (λ m. shared m c.own_minutes.result.to x n) c.own_minutes.ensures.from ∙ ap (λ m. shared (first_minute e) m x n) c.own_minutes.ensures.to in
    let mid = λ (x n : ℕ). counted es x n + minutes_between is_worked o e x n in
    let one : AreSums window mid c.add.new.self = c.add.ensures (counted es) mid old.worked record {
      is = λ x n. ap (λ m. counted es x n + m) (sym (between x n));
      most = λ x n. omega (arith, asked_minutes-push asked.Worked es e lawful next x n, asked_minutes-most asked.Worked now x n);
    } in
    let capped = λ (x n : ℕ).
    c.capped_between.ensures x n ∙ capped_during-is _ _ es e _ _ lawful stage came sum_before x n in
    let lies : LiesIn window e = subst (λ v. LiesIn v.window e) (sym c.self.view_is) c.requires.lies in
    record {
      totals = totals;
      lie = All-append (LiesIn window) es (e ∷ []) old.lie (All-cons (LiesIn window) e [] lies (All-nil (LiesIn window)));
      rested = c.after-self-inside.ensures es lawful next stage came ends sum old.rested;
      stayed = c.after-self-inside-2.ensures es lawful next stage ends old.stayed;
      worked = c.add-2.ensures mid (counted now) one record {
        is = λ x n. omega (arith, asked_minutes-push asked.Worked es e lawful next x n, own x n);
        most = asked_minutes-most asked.Worked now;
      };
      waited = c.add-3.ensures (capped_minutes es) (capped_minutes now) old.waited record {
        is = λ x n. capped_minutes-push es e lawful next x n ∙ ap (λ m. capped_minutes es x n + m) (sym (capped x n));
        most = capped_minutes-most now;
      };
    }
