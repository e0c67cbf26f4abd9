-- Months of a window, and what comes before it.
use Rattle.std.proofs.Common.{◌≡◌, ℕ, ◌+◌, ◌-◌, ◌<◌, ◌≤◌, ◌^◌, Bool, true, false, cond, inl, inr, Option, None, Some, IfSome, List, [], ◌∷◌, ◌++◌, refl, arith}
use Rattle.std.specs.List.{All}
use Rattle.std.proofs.lemmas.Bool.{cases_lt}
use Rattle.std.proofs.lemmas.List.Elements.{All-pop}
use Rattle.desk_base.specs.Month.{first_minute as month_start, minutes_of}
use Rattle.desk_base.specs.Day.{day_of}
use Rattle.desk_base.specs.Minute.{month_of}
use Rattle.desk_base.specs.Window.{WindowValue, IsWindow, start_of, end_of}
use Rattle.desk_base.proofs.MonthLemmas.{month_of_day_is, first_day-next, first_day_mono, first_day-zero, first_day-2100}
use Rattle.duty_events.specs.declared.asked.Asked.TheVariants as asked
use Rattle.duty_events.specs.declared.event.Event.{Event}
use Rattle.duty_events.specs.declared.limits.TheConstants.{DUTY_LIMIT}
use Rattle.duty_events.specs.Allowed.{first_minute, last_minute}
use Rattle.duty_events.specs.Asked.{asked_minutes, asked_between}
use Rattle.duty_events.specs.Between.{between}
use Rattle.duty_events.specs.Lists.{IsNext, IsLawful, last_event}
use Rattle.duty_events.specs.Minutes.{shared}
use Rattle.duty_events.specs.MinuteKind.{is_worked}
use Rattle.duty_events.specs.Tours.{sum_so_far}
use Rattle.duty_events.proofs.AskedLemmas.{asked_minutes-nil, asked_minutes-push}
use Rattle.duty_events.proofs.ListLemmas.{lawful-induction, last_event-push}
use Rattle.month_hours.specs.Capped.{is_limbo, capped_minutes}
use Rattle.month_hours.specs.declared.plan.Plan.{Plan}
use Rattle.month_hours.specs.Plan.{end_of as end_of_plan}
use Rattle.month_hours.specs.Steps.{capped_between}
use Rattle.month_hours.specs.Used.{used}
use Rattle.month_hours.proofs.CappedLemmas.{capped_minutes-nil, capped_minutes-push}
use Rattle.person_clock.specs.Clock.{LiesIn}

-- ---- months

-- a month that begins by a minute comes before one that begins after it
pub month-before : (month next minute : ℕ) → month_start month ≤ minute → minute < month_start next → month < next
month-before month next minute begun early = elim (cases_lt month next) [
  | inl before ↦ before
  | inr behind ↦ absurd (omega (arith, begun, early, first_day_mono next month behind))
]

-- one that comes before another ends by its first minute
pub month-ends : (month next : ℕ) → month < next → month_start month + minutes_of month ≤ month_start next
month-ends month next before = omega (arith, first_day-next month, first_day_mono (month + 1) next (omega (arith, before)))

-- where a window ends
pub window-ends : (w : WindowValue) → IsWindow w → (0 < end_of w) × (end_of w < 2 ^ 28)
window-ends w is = (
  omega (arith, is.some, first_day-zero, first_day_mono 0 (w.first + w.months) (omega arith)),
  omega (arith, first_day-2100, first_day_mono (w.first + w.months) 1560 is.ends),
)

-- a month of a plan that ends by the window's end comes before that
pub month-in : (p : Plan) (w : WindowValue) (i : ℕ) → IsWindow w → end_of_plan p ≤ end_of w → month_of p.report + i < month_of (end_of_plan p - 1) + 1
    → month_of p.report + i < w.first + w.months
month-in p w i is ends by =
    let last = end_of_plan p - 1 in
    let before = month-before (month_of last) (w.first + w.months) last (omega (arith, (month_of_day_is (day_of last)).begun)) (omega (arith, ends, (window-ends w is).0)) in
    omega (arith, by, before)

-- ---- minutes before a window

-- the last of the events that lie in it does
last-lies : (w : WindowValue) (es : List Event) → IsLawful es → All (LiesIn w) es → IfSome (last_event es) (LiesIn w)
last-lies w es lawful =
    lawful-induction (λ xs. All (LiesIn w) xs → IfSome (last_event xs) (LiesIn w)) (λ all. tt)
    (λ old e fine next was all. rw (last_event-push old e) (All-pop (LiesIn w) (old ++ e ∷ []) old (Some e) refl all).1)
    es lawful

-- nothing is counted before it, where each event counts only minutes from the one before it on
unmoved : (w : WindowValue) (count : List Event → ℕ → ℕ → ℕ) (more : List Event → Event → ℕ → ℕ → ℕ) → ((first many : ℕ) → count [] first many ≡ 0)
    → ((old : List Event) (e : Event) → IsLawful old → IsNext old e → (first many : ℕ) → count (old ++ e ∷ []) first many ≡ count old first many + more old e first many)
    → ((old : List Event) (e : Event) → IfSome (last_event old) (LiesIn w) → LiesIn w e → (first many : ℕ) → first + many ≤ start_of w → more old e first many ≡ 0)
    → (es : List Event) → IsLawful es → All (LiesIn w) es → (first many : ℕ) → first + many ≤ start_of w → count es first many ≡ 0
unmoved w count more none push idle es lawful =
    lawful-induction (λ xs. All (LiesIn w) xs → (first many : ℕ) → first + many ≤ start_of w → count xs first many ≡ 0) (λ all first many early. none first many)
    (λ old e fine next was all first many early.
    let split = All-pop (LiesIn w) (old ++ e ∷ []) old (Some e) refl all in
    omega (arith, push old e fine next first many, was split.0 first many early, idle old e (last-lies w old fine split.0) split.1 first many early))
    es lawful

worked-idle : (w : WindowValue) (o : Option Event) (e : Event) → IfSome o (LiesIn w) → LiesIn w e → (first many : ℕ) → first + many ≤ start_of w
    → asked_between asked.Worked o e first many + shared (first_minute e) (last_minute e) first many ≡ 0
worked-idle w None e last lies first many early = omega (arith, lies.0, early)
worked-idle w (Some p) e last lies first many early =
    let none : cond (is_worked (between p e)) (shared (last_minute p) (first_minute e) first many) 0 ≡ 0 = either (is_worked (between p e)) in
    omega (arith, none, lies.0, early)
  where
    either : (b : Bool) → cond b (shared (last_minute p) (first_minute e) first many) 0 ≡ 0
    either true = omega (arith, last.1, early)
    either false = refl

capped-idle : (w : WindowValue) (o : Option Event) (e : Event) (sum : ℕ) → IfSome o (LiesIn w) → (first many : ℕ) → first + many ≤ start_of w → capped_between o e sum first many ≡ 0
capped-idle w None e sum last first many early = refl
capped-idle w (Some p) e sum last first many early = either (is_limbo (between p e))
  where
    either : (b : Bool) → cond b (shared (last_minute p + (DUTY_LIMIT - sum)) (first_minute e) first many) 0 ≡ 0
    either true = omega (arith, last.1, early)
    either false = refl

pub worked-before : (w : WindowValue) (es : List Event) → IsLawful es → All (LiesIn w) es → (first many : ℕ) → first + many ≤ start_of w → asked_minutes asked.Worked es first many ≡ 0
worked-before w es lawful lie =
    unmoved w (asked_minutes asked.Worked) (λ old e first many. asked_between asked.Worked (last_event old) e first many + shared (first_minute e) (last_minute e) first many)
    (asked_minutes-nil asked.Worked) (λ old e fine next first many. asked_minutes-push asked.Worked old e fine next first many)
    (λ old e last lies first many early. worked-idle w (last_event old) e last lies first many early)
    es lawful lie

pub capped-before : (w : WindowValue) (es : List Event) → IsLawful es → All (LiesIn w) es → (first many : ℕ) → first + many ≤ start_of w → capped_minutes es first many ≡ 0
capped-before w es lawful lie =
    unmoved w capped_minutes (λ old e first many. capped_between (last_event old) e (sum_so_far old) first many) capped_minutes-nil
    (λ old e fine next first many. capped_minutes-push old e fine next first many)
    (λ old e last lies first many early. capped-idle w (last_event old) e (sum_so_far old) last first many early)
    es lawful lie

pub used-is : (es : List Event) (month : ℕ) → asked_minutes asked.Worked es (month_start month) (minutes_of month) ≡ used es month
unfolding used
used-is es month = refl
