-- The first of some months that passes, and that no other month that holds a minute of a plan comes before it.
use Rattle.std.proofs.Common.{◌≡◌, ℕ, zero, suc, ◌+◌, ◌-◌, ◌<◌, ◌≤◌, inl, inr, Bool, true, false, if◌then◌else◌, Option, None, Some, IfSome, List, refl, sym, subst, arith}
use Rattle.std.specs.Option.{option_map}
use Rattle.std.specs.List.{find, range_with_len}
use Rattle.std.proofs.lemmas.Bool.{cases_lt}
use Rattle.std.proofs.lemmas.Bool.Decides.{nat_tests}
use Rattle.desk_base.specs.Day.{day_of}
use Rattle.desk_base.specs.Minute.{month_of}
use Rattle.desk_base.proofs.MonthLemmas.{month_of_day_is, first_day_mono, first_day-next}
use Rattle.duty_events.specs.declared.event.Event.{Event}
use Rattle.month_hours.specs.declared.limit.Limit.{Limit}
use Rattle.month_hours.specs.declared.limit.Limit.TheVariants as limit
use Rattle.month_hours.specs.declared.over.Over.{Over}
use Rattle.month_hours.specs.declared.plan.Plan.{Plan}
use Rattle.month_hours.specs.Plan.{end_of, planned}
use Rattle.month_hours.specs.Over.{most, total, is_over, over_in, first_over, over_month, over_limbo, TellsFirst, KeepsHours, KeepsLimbo, IsMonthOfPlan}
use Rattle.month_hours.proofs.PlanLemmas.{planned-shared}

-- the first of so many months from one on that would pass
abbrev pub first_from : Limit → List Event → Plan → ℕ → ℕ → Option Over
first_from l es p m many = option_map (over_in l es p) (find (is_over l es p) (range_with_len m many))

-- what one month gives
abbrev pub here : Limit → List Event → Plan → ℕ → Option Over
here l es p m = if is_over l es p m then Some (over_in l es p m) else None

first_from-here : (l : Limit) (es : List Event) (p : Plan) (m many : ℕ) (over : Over) → Some over ≡ here l es p m → first_from l es p m (suc many) ≡ Some over
first_from-here l es p m many over gives = go (is_over l es p m) refl
  where
    go : (b : Bool) → is_over l es p m ≡ b → first_from l es p m (suc many) ≡ Some over
    go true is = let found : Some over ≡ Some (over_in l es p m) = rw is at gives in rw is (sym found)
    go false is = let none : Some over ≡ None = rw is at gives in absurd (cc)

first_from-later : (l : Limit) (es : List Event) (p : Plan) (m many : ℕ) → None ≡ here l es p m → first_from l es p m (suc many) ≡ first_from l es p (m + 1) many
first_from-later l es p m many gives = go (is_over l es p m) refl
  where
    go : (b : Bool) → is_over l es p m ≡ b → first_from l es p m (suc many) ≡ first_from l es p (m + 1) many
    go true is = let some : None ≡ Some (over_in l es p m) = rw is at gives in absurd (cc)
    go false is = rw is refl

-- the same up to a last month
pub first_until-here : (l : Limit) (es : List Event) (p : Plan) (m end : ℕ) (over : Over) → m < end → Some over ≡ here l es p m → first_from l es p m (end - m) ≡ Some over
first_until-here l es p m end over before gives =
    let more : end - m ≡ suc (end - (m + 1)) = omega arith in
    rw more (first_from-here l es p m (end - (m + 1)) over gives)

pub first_until-later : (l : Limit) (es : List Event) (p : Plan) (m end : ℕ) → m < end → None ≡ here l es p m → first_from l es p m (end - m) ≡ first_from l es p (m + 1) (end - (m + 1))
first_until-later l es p m end before gives =
    let more : end - m ≡ suc (end - (m + 1)) = omega arith in
    rw more (first_from-later l es p m (end - (m + 1)) gives)

pub first_until-none : (l : Limit) (es : List Event) (p : Plan) (m end : ℕ) → end ≤ m → first_from l es p m (end - m) ≡ None
first_until-none l es p m end past = let none : end - m ≡ 0 = omega arith in rw none refl

pub first_over-until : (l : Limit) (es : List Event) (p : Plan) (m end : ℕ) → m ≡ month_of p.report → end ≡ month_of (end_of p - 1) + 1 → first_from l es p m (end - m) ≡ first_over l es p
unfolding first_over
first_over-until l es p m end from to = rw (from, to) refl

-- the first number of some that passes
record IsFirstFrom (q : ℕ → Bool) (a many m : ℕ) : Type 0 where
  passes : q m ≡ true
  before : (j : ℕ) → a ≤ j → j < m → q j ≡ false

abbrev Finds : (ℕ → Bool) → ℕ → ℕ → Option ℕ → Type 0
Finds q a many None = (j : ℕ) → a ≤ j → j < a + many → q j ≡ false
Finds q a many (Some m) = IsFirstFrom q a many m

none_here : (q : ℕ → Bool) (a j : ℕ) → q a ≡ false → a ≤ j → j < a + 1 → q j ≡ false
none_here q a j is low high = let same : j ≡ a = omega arith in rw same is

finds-later : (q : ℕ → Bool) (a many : ℕ) (o : Option ℕ) → q a ≡ false → Finds q (a + 1) many o → Finds q a (suc many) o
finds-later q a many None is rest = λ j low high.
    elim (cases_lt j (a + 1)) [ inl lt ↦ none_here q a j is low lt | inr ge ↦ rest j ge (omega (arith, high)) ]
finds-later q a many (Some m) is rest = record {
  passes = rest.passes;
  before = λ j low high. elim (cases_lt j (a + 1)) [ inl lt ↦ none_here q a j is low lt | inr ge ↦ rest.before j ge high ];
}

finds : (q : ℕ → Bool) (a many : ℕ) → Finds q a many (find q (range_with_len a many))
finds q a zero = λ j low high. absurd (omega (arith, low, high))
finds q a (suc many) = go (q a) refl (finds q (a + 1) many)
  where
    go : (b : Bool) → q a ≡ b → Finds q (a + 1) many (find q (range_with_len (a + 1) many)) → Finds q a (suc many) (find q (range_with_len a (suc many)))
    go true is rest = rw is (record { passes = is; before = λ j low high. absurd (omega (arith, low, high)) })
    go false is rest = rw is (finds-later q a many _ is rest)

-- a month that holds a minute of a plan is one of the plan's
month_of-holds : (p : Plan) (m : ℕ) → 0 < planned p m → IsMonthOfPlan p m
month_of-holds p m some =
    let count = planned-shared p m in
    let next = first_day-next m in
    record { from = omega (arith, some, count, next); to = omega (arith, some, count) }

from_first : (p : Plan) (m : ℕ) → IsMonthOfPlan p m → month_of p.report ≤ m
from_first p m is = elim (cases_lt m (month_of p.report)) [
  | inl before ↦ absurd (omega (arith, is.from, (month_of_day_is (day_of p.report)).begun, first_day_mono (m + 1) (month_of p.report) (omega (arith, before))))
  | inr from ↦ from
]

to_last : (p : Plan) (m : ℕ) → IsMonthOfPlan p m → m ≤ month_of (end_of p - 1)
to_last p m is = elim (cases_lt (month_of (end_of p - 1)) m) [
  | inl behind ↦ absurd (omega (arith, is.to, (month_of_day_is (day_of (end_of p - 1))).not_over, first_day_mono (month_of (end_of p - 1) + 1) m (omega (arith, behind))))
  | inr to ↦ to
]

within : (l : Limit) (es : List Event) (p : Plan) (m : ℕ) → is_over l es p m ≡ false → 0 < planned p m → total l es p m ≤ most l
within l es p m not some = grind (arith, nat_tests, not, some)

is_over-holds : (l : Limit) (es : List Event) (p : Plan) (m : ℕ) → is_over l es p m ≡ true → 0 < planned p m
is_over-holds l es p m is = grind (arith, nat_tests, is)

is_over-passes : (l : Limit) (es : List Event) (p : Plan) (m : ℕ) → is_over l es p m ≡ true → most l < total l es p m
is_over-passes l es p m is = grind (arith, nat_tests, is)

tells : (l : Limit) (es : List Event) (p : Plan) (o : Option ℕ) → Finds (is_over l es p) (month_of p.report) (month_of (end_of p - 1) + 1 - month_of p.report) o → TellsFirst l es p (option_map (over_in l es p) o)
tells l es p None finds = λ m some.
    let is = month_of-holds p m some in
    within l es p m (finds m (from_first p m is) (omega (arith, to_last p m is, from_first p m is))) some
tells l es p (Some first) finds = record {
  holds = is_over-holds l es p first finds.passes;
  counts = refl;
  passes = is_over-passes l es p first finds.passes;
  none_before = λ m before some. within l es p m (finds.before m (from_first p m (month_of-holds p m some)) before) some;
}

pub first_over-tells : (l : Limit) (es : List Event) (p : Plan) → TellsFirst l es p (first_over l es p)
unfolding first_over
first_over-tells l es p = tells l es p _ (finds (is_over l es p) (month_of p.report) (month_of (end_of p - 1) + 1 - month_of p.report))

-- there is no such month just where none passes
none-passes : (l : Limit) (es : List Event) (p : Plan) (o : Option Over) → TellsFirst l es p o → TellsFirst l es p None → o ≡ None
none-passes l es p None tells none = refl
none-passes l es p (Some over) tells none = absurd (omega (arith, tells.counts, tells.passes, none over.month tells.holds))

pub first_over-none : (l : Limit) (es : List Event) (p : Plan) → (first_over l es p ≡ None → TellsFirst l es p None) × (TellsFirst l es p None → first_over l es p ≡ None)
first_over-none l es p = (
  λ none. subst (TellsFirst l es p) none (first_over-tells l es p),
  λ none. none-passes l es p (first_over l es p) (first_over-tells l es p) none,
)

pub over_month-none : (es : List Event) (p : Plan) → (over_month es p ≡ None → KeepsHours es p) × (KeepsHours es p → over_month es p ≡ None)
over_month-none es p = first_over-none limit.Hours es p

pub over_limbo-none : (es : List Event) (p : Plan) → (over_limbo es p ≡ None → KeepsLimbo es p) × (KeepsLimbo es p → over_limbo es p ≡ None)
over_limbo-none es p = first_over-none limit.Limbo es p

-- the month that passes is one of the plan's
of_plan : (l : Limit) (es : List Event) (p : Plan) (o : Option Over) → TellsFirst l es p o → IfSome o (λ over. IsMonthOfPlan p over.month)
of_plan l es p None tells = tt
of_plan l es p (Some over) tells = month_of-holds p over.month tells.holds

pub first_over-month : (l : Limit) (es : List Event) (p : Plan) → IfSome (first_over l es p) (λ over. IsMonthOfPlan p over.month)
first_over-month l es p = of_plan l es p _ (first_over-tells l es p)
