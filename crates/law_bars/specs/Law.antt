-- The bars of 49 USC 21103, in the order in which the desk looks at them: over a person's events, their home, the moment
-- of the call, and the job: its report, so many minutes on duty from there on, and so many of limbo behind them.
use Rattle.std.specs.Prelude.{◌≡◌, ℕ, ◌+◌, ◌<◌, ◌≤◌, ◌==◌, true, ◌&&◌, not, Option, None, Some, if◌then◌else◌, List, [], ◌∷◌}
use Rattle.std.specs.Option.{option_map}
use Rattle.rest_rules.specs.declared.rest.TheConstants.{REST}
use Rattle.consecutive_days.specs.declared.run.TheConstants.{OFF_AFTER_SEVEN_DAYS, OFF_AFTER_SIX_DAYS}
use Rattle.duty_events.specs.declared.event.Event.{Event}
use Rattle.duty_events.specs.Lists.{IsLawful}
use Rattle.denial_rules.specs.declared.bar.Bar.{Bar}
use Rattle.denial_rules.specs.declared.bar.Bar.TheVariants as bar
use Rattle.denial_rules.specs.Table.{first_some}
use Rattle.rest_rules.specs.OffFrom.{off_from}
use Rattle.rest_rules.specs.Excess.{excess}
use Rattle.rest_rules.specs.Rest.{is_off, rest_ok, rest_end, RestOk}
use Rattle.month_hours.specs.Plan.{plan_of}
use Rattle.month_hours.specs.Over.{over_month, over_limbo, KeepsHours, KeepsLimbo}
use Rattle.consecutive_days.specs.Run.{run_days, need}
use Rattle.consecutive_days.specs.Days.{days_ok, DaysOk}

-- 21103(a)(3): ten hours off before the report; keeps the minute ten hours after the last worked one
abbrev pub rest_row : List Event → ℕ → Option Bar
rest_row es report = if rest_ok es report 0 then None else Some (bar.Rest (off_from es + REST))

-- 21103(c)(4): as much more as the last tour had over twelve hours; keeps the end of rest. Where a tour closed with no
-- minutes the person may have rested only later than the minute that either row keeps
abbrev pub more_rest_row : List Event → ℕ → Option Bar
more_rest_row es report = if rest_ok es report (excess es) then None else Some (bar.MoreRest (rest_end es))

-- 21103(e): nobody calls before that rest is over; keeps the same minute
abbrev pub undisturbed_row : List Event → ℕ → Option Bar
undisturbed_row es moment = if rest_ok es moment (excess es) then None else Some (bar.Undisturbed (rest_end es))

-- 21103(a)(4)(A), after six days in a row, and (ii), after seven or more: 48 hours, and 72, off at home before the report;
-- keeps how many days these are, and how many minutes they need
abbrev pub six_days_row : List Event → List ℕ → ℕ → Option Bar
six_days_row es home report =
    if not (days_ok es home report) && (need (run_days es) == OFF_AFTER_SIX_DAYS) then Some (bar.SixDays (run_days es) (need (run_days es))) else None

abbrev pub seven_days_row : List Event → List ℕ → ℕ → Option Bar
seven_days_row es home report =
    if not (days_ok es home report) && (need (run_days es) == OFF_AFTER_SEVEN_DAYS) then Some (bar.SevenDays (run_days es) (need (run_days es))) else None

-- 21103(a)(1): 276 hours in a month; keeps the first month of the job that would have more with it, and its total
abbrev pub month_row : List Event → ℕ → ℕ → ℕ → Option Bar
month_row es report duty limbo = option_map (λ over. bar.MonthHours over.month over.total) (over_month es (plan_of report duty limbo))

-- 21103(c)(1): 30 hours of limbo in a month, behind twelve hours of a tour; keeps the same of these
abbrev pub limbo_row : List Event → ℕ → ℕ → ℕ → Option Bar
limbo_row es report duty limbo = option_map (λ over. bar.LimboHours over.month over.total) (over_limbo es (plan_of report duty limbo))

-- the rows in order
abbrev pub law_rows : List Event → List ℕ → ℕ → ℕ → ℕ → ℕ → List (Option Bar)
law_rows es home moment report duty limbo =
    rest_row es report
    ∷ more_rest_row es report
    ∷ undisturbed_row es moment
    ∷ six_days_row es home report
    ∷ seven_days_row es home report
    ∷ month_row es report duty limbo
    ∷ limbo_row es report duty limbo
    ∷ []

-- the first row that holds
unfoldable pub law_bar : List Event → List ℕ → ℕ → ℕ → ℕ → ℕ → Option Bar
law_bar es home moment report duty limbo = first_some (law_rows es home moment report duty limbo)

-- no section bars the person, each in other words: they have rested at the report, and with the excess, and have so at the
-- moment; no time off after days in a row is wanting; and no month of the job has more than its hours and its limbo
pub record KeepsLaw (es : List Event) (home : List ℕ) (moment report duty limbo : ℕ) : Type 0 where
  pub rest : RestOk es report 0
  pub more_rest : RestOk es report (excess es)
  pub undisturbed : RestOk es moment (excess es)
  pub days : DaysOk es home report
  pub month : KeepsHours es (plan_of report duty limbo)
  pub waiting : KeepsLimbo es (plan_of report duty limbo)

-- there is no bar just where the law is kept
abbrev pub LawInWords : Type 0
LawInWords = (es : List Event) (home : List ℕ) (moment report duty limbo : ℕ) → IsLawful es
    → (law_bar es home moment report duty limbo ≡ None → KeepsLaw es home moment report duty limbo)
    × (KeepsLaw es home moment report duty limbo → law_bar es home moment report duty limbo ≡ None)

-- each of the ten hours before a minute is off
abbrev pub WasOffTenHours : List Event → ℕ → Type 0
WasOffTenHours es at = (t : ℕ) → t < at → at ≤ t + REST → is_off es t ≡ true
