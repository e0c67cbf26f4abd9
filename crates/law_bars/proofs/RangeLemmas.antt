-- Each value that a bar of the law keeps is in its range.
use Rattle.std.proofs.Common.{◌≡◌, ℕ, ◌+◌, ◌<◌, ◌≤◌, ◌^◌, ◌⊎◌, inl, inr, ◌==◌, ◌&&◌, Bool, true, false, cond, not, nat_lt, Option, None, Some, IfSome, List, [], ◌∷◌, ◌++◌, refl, arith}
use Rattle.std.proofs.lemmas.Bool.{cases_lt}
use Rattle.desk_base.specs.declared.minute.TheConstants.{YEARS_BEGIN, YEARS_END}
use Rattle.desk_base.specs.Minute.{IsInYears}
use Rattle.desk_base.specs.Month.{IsMonthInYears, first_minute as month_start, minutes_of}
use Rattle.desk_base.proofs.MonthLemmas.{first_day_mono, first_day-2000, first_day-2100, length_of_bounds}
use Rattle.duty_events.specs.declared.event.Event.{Event}
use Rattle.duty_events.specs.Allowed.{first_minute, last_minute}
use Rattle.duty_events.specs.Between.{kind_until}
use Rattle.duty_events.specs.Lists.{IsNext, IsLawful, stage_of, last_event, reached}
use Rattle.duty_events.specs.MinuteKind.{begins, is_worked, kind_of}
use Rattle.duty_events.proofs.CountLemmas.{minutes_where-most}
use Rattle.duty_events.proofs.ListLemmas.{lawful-induction}
use Rattle.rest_rules.specs.declared.rest.TheConstants.{REST}
use Rattle.rest_rules.specs.OffFrom.{off_from}
use Rattle.rest_rules.specs.Excess.{excess}
use Rattle.rest_rules.proofs.ExcessLemmas.{excess-range}
use Rattle.rest_rules.specs.Rest.{was_off, rest_ok, rest_end}
use Rattle.rest_rules.proofs.OffFromLemmas.{end_after-range, off_from-nil, off_from-push}
use Rattle.rest_rules.proofs.RestLemmas.{off_from-some, end-taken, end-owed}
use Rattle.month_hours.specs.declared.limit.Limit.{Limit}
use Rattle.month_hours.specs.declared.limit.Limit.TheVariants as limit
use Rattle.month_hours.specs.declared.over.Over.{Over}
use Rattle.month_hours.specs.declared.plan.Plan.{Plan}
use Rattle.month_hours.specs.Used.{used}
use Rattle.month_hours.specs.Plan.{plan_of, planned, planned_capped, is_planned, is_planned_capped}
use Rattle.month_hours.specs.Over.{first_over, total, TellsFirst, IsMonthOfPlan}
use Rattle.month_hours.proofs.CappedLemmas.{capped_minutes-most}
use Rattle.month_hours.proofs.OverLemmas.{first_over-tells, first_over-month}
use Rattle.consecutive_days.specs.declared.run.TheConstants.{OFF_AFTER_SEVEN_DAYS, OFF_AFTER_SIX_DAYS, SIX_DAYS}
use Rattle.consecutive_days.specs.Run.{last_start, run_days, need}
use Rattle.consecutive_days.specs.Days.{days_ok}
use Rattle.consecutive_days.specs.Steps.{last_day}
use Rattle.consecutive_days.proofs.StartLemmas.{last_start-push, last_start-nil, run_days-most}
use Rattle.denial_rules.specs.declared.bar.Bar.TheVariants as bar
use Rattle.denial_rules.specs.Bar.{FitsBar}
use Rattle.denial_rules.proofs.FitLemmas.{row-fits, where-fits, unless-fits, option-fits}
use Rattle.law_bars.specs.Law.{rest_row, more_rest_row, undisturbed_row, six_days_row, seven_days_row, month_row, limbo_row, law_bar}

-- ---- rest

off_from-range : (es : List Event) → IsLawful es → (off_from es ≡ 0) ⊎ IsInYears (off_from es)
off_from-range es lawful = lawful-induction (λ past. (off_from past ≡ 0) ⊎ IsInYears (off_from past)) (inl off_from-nil) more es lawful
  where
    more : (past : List Event) (e : Event) → IsLawful past → IsNext past e → (off_from past ≡ 0) ⊎ IsInYears (off_from past)
        → (off_from (past ++ e ∷ []) ≡ 0) ⊎ IsInYears (off_from (past ++ e ∷ []))
    more past e fine next was =
        rw (off_from-push past e fine next)
        (end_after-range _ true (first_minute e) (last_minute e) next.last_in
        (end_after-range (off_from past) (is_worked (kind_until (last_event past) e)) (reached (last_event past)) (first_minute e) next.first_in was))

-- who has not rested, and when their rest ends
rest-owed : (es : List Event) (at more : ℕ) → IsLawful es → rest_ok es at more ≡ false → IsInYears (off_from es)
rest-owed es at more lawful not = elim (off_from-range es lawful) [
  | inl none ↦ absurd (omega (arith, none, off_from-some es at more not))
  | inr in_years ↦ in_years
]

rest_end-range : (es : List Event) → IsLawful es → IsInYears (off_from es) → (YEARS_BEGIN ≤ rest_end es) × (rest_end es < 2 ^ 28)
rest_end-range es lawful in_years = go (was_off es (REST + excess es) (off_from es)) refl
  where
    some : 0 < off_from es
    some = omega (arith, in_years.0)

    go : (b : Bool) → was_off es (REST + excess es) (off_from es) ≡ b → (YEARS_BEGIN ≤ rest_end es) × (rest_end es < 2 ^ 28)
    go true is = let same = end-taken es some is in (omega (arith, same, in_years.0), omega (arith, same, in_years.1))
    go false is =
        let same = end-owed es some is in
        let few = excess-range es lawful in
        (omega (arith, same, in_years.0), omega (arith, same, in_years.1, few))

rest_row-fits : (es : List Event) (report : ℕ) → IsLawful es → IfSome (rest_row es report) FitsBar
rest_row-fits es report lawful =
    unless-fits (rest_ok es report 0) (bar.Rest (off_from es + REST))
    (λ not. let owed = rest-owed es report 0 lawful not in (omega (arith, owed.0), omega (arith, owed.1)))

-- who has not rested with the excess, at the report or at the moment
excess-fits : (es : List Event) (at : ℕ) → IsLawful es → rest_ok es at (excess es) ≡ false → (YEARS_BEGIN ≤ rest_end es) × (rest_end es < 2 ^ 28)
excess-fits es at lawful not = rest_end-range es lawful (rest-owed es at (excess es) lawful not)

-- ---- days

last_day-range : (es : List Event) → IsLawful es → last_day (last_start es) < YEARS_END
last_day-range es lawful = lawful-induction (λ past. last_day (last_start past) < YEARS_END) (rw last_start-nil (omega arith)) more es lawful
  where
    more : (past : List Event) (e : Event) → IsLawful past → IsNext past e → last_day (last_start past) < YEARS_END → last_day (last_start (past ++ e ∷ [])) < YEARS_END
    more past e fine next was = rw (last_start-push past e) (go (begins (stage_of past) e))
      where
        go : (b : Bool) → last_day (cond b (Some (first_minute e)) (last_start past)) < YEARS_END
        go true = omega (arith, next.first_in.1)
        go false = was

need-range : (run : ℕ) → need run < 2 ^ 32
need-range run = go (nat_lt run SIX_DAYS) (run == SIX_DAYS)
  where
    go : (few six : Bool) → cond few 0 (cond six OFF_AFTER_SIX_DAYS OFF_AFTER_SEVEN_DAYS) < 2 ^ 32
    go true six = omega arith
    go false true = omega arith
    go false false = omega arith

days-fit : (es : List Event) → IsLawful es → (run_days es < 2 ^ 32) × (need (run_days es) < 2 ^ 32)
days-fit es lawful = (omega (arith, run_days-most es lawful, last_day-range es lawful), need-range (run_days es))

-- ---- months

-- a month of a plan in the years 2000 to 2099 lies in these
month-in_years : (m report end : ℕ) → IsInYears report → end ≤ YEARS_END → report < month_start (m + 1) → month_start m < end → IsMonthInYears m
month-in_years m report end in_years by from to = (low, high)
  where
    low : 360 ≤ m
    low = elim (cases_lt m 360) [
      | inl early ↦ absurd (omega (arith, in_years.0, from, first_day_mono (m + 1) 360 (omega (arith, early)), first_day-2000))
      | inr late ↦ late
    ]

    high : m < 1560
    high = elim (cases_lt m 1560) [
      | inl early ↦ early
      | inr late ↦ absurd (omega (arith, by, to, first_day_mono 1560 m late, first_day-2100))
    ]

total-range : (l : Limit) (es : List Event) (p : Plan) (m : ℕ) → total l es p m < 2 ^ 32
unfolding used planned planned_capped
total-range limit.Hours es p m =
    omega (arith, minutes_where-most (λ t. is_worked (kind_of es t)) (month_start m) (minutes_of m), minutes_where-most (is_planned p) (month_start m) (minutes_of m), (length_of_bounds m).1)
total-range limit.Limbo es p m =
    omega (arith, capped_minutes-most es (month_start m) (minutes_of m), minutes_where-most (is_planned_capped p) (month_start m) (minutes_of m), (length_of_bounds m).1)

over-fits : (l : Limit) (es : List Event) (p : Plan) (o : Option Over) → IsInYears p.report → p.report + p.duty + p.limbo ≤ YEARS_END
    → TellsFirst l es p o → IfSome o (λ over. IsMonthOfPlan p over.month) → IfSome o (λ over. IsMonthInYears over.month × (over.total < 2 ^ 32))
over-fits l es p None in_years ends tells month = tt
over-fits l es p (Some over) in_years ends tells month =
    (month-in_years over.month p.report (p.report + p.duty + p.limbo) in_years ends month.from month.to, omega (arith, tells.counts, total-range l es p over.month))

first_over-fits : (l : Limit) (es : List Event) (p : Plan) → IsInYears p.report → p.report + p.duty + p.limbo ≤ YEARS_END
    → IfSome (first_over l es p) (λ over. IsMonthInYears over.month × (over.total < 2 ^ 32))
first_over-fits l es p in_years ends = over-fits l es p (first_over l es p) in_years ends (first_over-tells l es p) (first_over-month l es p)

-- ---- the first row

pub law_bar-fits : (es : List Event) (home : List ℕ) (moment report duty limbo : ℕ) → IsLawful es → IsInYears report → report + duty + limbo ≤ YEARS_END
    → IfSome (law_bar es home moment report duty limbo) FitsBar
unfolding law_bar
law_bar-fits es home moment report duty limbo lawful in_years by =
    let plan = plan_of report duty limbo in
    let days = days-fit es lawful in
    row-fits (rest_row es report) _ (rest_row-fits es report lawful)
    (row-fits (more_rest_row es report) _ (unless-fits (rest_ok es report (excess es)) (bar.MoreRest (rest_end es)) (excess-fits es report lawful))
    (row-fits (undisturbed_row es moment) _ (unless-fits (rest_ok es moment (excess es)) (bar.Undisturbed (rest_end es)) (excess-fits es moment lawful))
    (row-fits (six_days_row es home report) _
    (where-fits (not (days_ok es home report) && (need (run_days es) == OFF_AFTER_SIX_DAYS)) (bar.SixDays (run_days es) (need (run_days es))) days)
    (row-fits (seven_days_row es home report) _
    (where-fits (not (days_ok es home report) && (need (run_days es) == OFF_AFTER_SEVEN_DAYS)) (bar.SevenDays (run_days es) (need (run_days es))) days)
    (row-fits (month_row es report duty limbo) _
    (option-fits (λ (over : Over). bar.MonthHours over.month over.total) (first_over limit.Hours es plan) (first_over-fits limit.Hours es plan in_years by))
    (row-fits (limbo_row es report duty limbo) []
    (option-fits (λ (over : Over). bar.LimboHours over.month over.total) (first_over limit.Limbo es plan) (first_over-fits limit.Limbo es plan in_years by)) tt))))))
