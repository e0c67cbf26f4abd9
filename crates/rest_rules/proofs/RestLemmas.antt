-- Rest: the test and the cases, and the law of its end.
use Rattle.std.proofs.Common.{◌≡◌, ℕ, ◌+◌, ◌-◌, ◌<◌, ◌≤◌, Bool, true, false, ◌&&◌, ◌||◌, nat_eq, nat_le, inl, inr, List, refl, sym, ◌∙◌, arith}
use Rattle.std.specs.Bool.{Decides}
use Rattle.std.proofs.lemmas.Bool.{false≢true, cases_lt, le-leb, and_parts}
use Rattle.std.proofs.lemmas.Bool.Decides.{nat_tests}
use Rattle.rest_rules.specs.declared.rest.TheConstants.{REST}
use Rattle.duty_events.specs.Stretch.{Stretch}
use Rattle.duty_events.proofs.StretchLemmas.{has_stretch-decides, stretch-same}
use Rattle.duty_events.specs.declared.event.Event.{Event}
use Rattle.duty_events.specs.declared.minute_kind.MinuteKind.{MinuteKind}
use Rattle.duty_events.specs.declared.minute_kind.MinuteKind.TheVariants as minute
use Rattle.duty_events.specs.declared.stage.Stage.TheVariants as stage
use Rattle.duty_events.specs.Lists.{IsLawful, stage_of}
use Rattle.duty_events.specs.MinuteKind.{kind_of, is_worked, is_off_duty}
use Rattle.duty_events.specs.EndedTours.{last_tour, end_of}
use Rattle.duty_events.proofs.OffLemmas.{off-unless_worked}
use Rattle.rest_rules.specs.OffFrom.{works, off_from, IsOffFrom}
use Rattle.rest_rules.specs.Excess.{excess}
use Rattle.rest_rules.specs.Rest.{is_off, was_off, rest_ok, rest_end, HasRested, RestOk, EndsRest}
use Rattle.rest_rules.proofs.OffFromLemmas.{off_from-is}

-- a worked minute isn't off
off_not_worked : (k : MinuteKind) → is_off_duty k ≡ true → is_worked k ≡ true → false ≡ true
off_not_worked minute.Off off worked = worked
off_not_worked minute.OnDuty off worked = off
off_not_worked minute.Limbo off worked = off
off_not_worked minute.Other off worked = off
off_not_worked minute.Open off worked = off

-- no minute is worked just where nobody is off since a minute
off_from-none : (es : List Event) → IsLawful es → ((t : ℕ) → works es t ≡ false) → off_from es ≡ 0
off_from-none es lawful none = elim (cases_lt 0 (off_from es)) [
  | inl some ↦ absurd (false≢true (sym (none (off_from es - 1)) ∙ (off_from-is es lawful).last some))
  | inr zero ↦ omega (arith, zero)
]

-- the test holds just in the two cases
pub rest_ok-decides : (es : List Event) → IsLawful es → (at more : ℕ) → Decides (rest_ok es at more) (RestOk es at more)
rest_ok-decides es lawful at more = (cases, test)
  where
    there : Decides (was_off es (REST + more) at) (Stretch (is_off es) (REST + more) (end_of (last_tour es)) at)
    there = has_stretch-decides (is_off es) (REST + more) (end_of (last_tour es)) at (omega arith)

    rested : (nat_le (off_from es + REST) at && was_off es (REST + more) at) ≡ true → RestOk es at more
    rested both =
        let parts = and_parts (nat_le (off_from es + REST) at) (was_off es (REST + more) at) both in
        let ten : off_from es + REST ≤ at = grind (arith, nat_tests, parts) in
        inr (record { ten_hours = ten; stretch = there.0 parts.1 })

    by : (b : Bool) → nat_eq (off_from es) 0 ≡ b → (b || (nat_le (off_from es + REST) at && was_off es (REST + more) at)) ≡ true → RestOk es at more
    by true zero is =
        let none : off_from es ≡ 0 = grind (arith, nat_tests, zero) in
        inl (λ t. (off_from-is es lawful).after t (omega (arith, none)))
    by false some is = rested is

    cases : rest_ok es at more ≡ true → RestOk es at more
    cases is = by (nat_eq (off_from es) 0) refl is

    or : (b : Bool) → (b || true) ≡ true
    or true = refl
    or false = refl

    test : RestOk es at more → rest_ok es at more ≡ true
    test (inl none) = rw (off_from-none es lawful none) refl
    test (inr has) = rw (le-leb (off_from es + REST) at has.ten_hours, there.1 has.stretch) (or (nat_eq (off_from es) 0))

-- who has not rested is off since a minute
pub off_from-some : (es : List Event) (at more : ℕ) → rest_ok es at more ≡ false → 0 < off_from es
off_from-some es at more not = elim (cases_lt 0 (off_from es)) [
  | inl some ↦ some
  | inr zero ↦ let none : off_from es ≡ 0 = omega (arith, zero) in absurd (false≢true (sym not ∙ rw none refl))
]

-- the values of the end of rest
end-none : (es : List Event) → off_from es ≡ 0 → rest_end es ≡ 0
end-none es is = rw is refl

pub end-taken : (es : List Event) → 0 < off_from es → was_off es (REST + excess es) (off_from es) ≡ true → rest_end es ≡ off_from es + REST
end-taken es some is = let not : nat_eq (off_from es) 0 ≡ false = grind (arith, nat_tests, some) in rw (not, is) refl

pub end-owed : (es : List Event) → 0 < off_from es → was_off es (REST + excess es) (off_from es) ≡ false → rest_end es ≡ off_from es + REST + excess es
end-owed es some is = let not : nat_eq (off_from es) 0 ≡ false = grind (arith, nat_tests, some) in rw (not, is) refl

-- the law of the end of rest
pub rest_end-law : (es : List Event) → IsLawful es → stage_of es ≡ stage.Off → EndsRest es (rest_end es)
rest_end-law es lawful off = record { before = before; from = from }
  where
    x : ℕ
    x = excess es

    taken : Decides (was_off es (REST + x) (off_from es)) (Stretch (is_off es) (REST + x) (end_of (last_tour es)) (off_from es))
    taken = has_stretch-decides (is_off es) (REST + x) (end_of (last_tour es)) (off_from es) (omega arith)

    is : IsOffFrom es (off_from es)
    is = off_from-is es lawful

    clash : 0 < off_from es → is_off es (off_from es - 1) ≡ true → ⊥
    clash some free = false≢true (off_not_worked (kind_of es (off_from es - 1)) free (is.last some))

    owed : (t : ℕ) → 0 < off_from es → t < off_from es + REST + x → was_off es (REST + x) (off_from es) ≡ false → Stretch (is_off es) (REST + x) (end_of (last_tour es)) t → ⊥
    owed t some early not s = elim (cases_lt (off_from es) (s.first + (REST + x))) [
      | inl over ↦ clash some (s.each (off_from es - 1) (omega (arith, s.ends, early)) (omega (arith, over)))
      | inr by ↦ false≢true (sym not ∙ taken.1 (record { first = s.first; begins = s.begins; ends = by; each = s.each }))
    ]

    early_by : (t : ℕ) → t < rest_end es → 0 < off_from es → HasRested es t x → (b : Bool) → was_off es (REST + x) (off_from es) ≡ b → ⊥
    early_by t early some has true is = omega (arith, early, end-taken es some is, has.ten_hours)
    early_by t early some has false not = owed t some (omega (arith, early, end-owed es some not)) not has.stretch

    before : (t : ℕ) → t < rest_end es → RestOk es t x → ⊥
    before t early ok = elim (cases_lt 0 (off_from es)) [
      | inl some ↦ by some ok
      | inr zero ↦ omega (arith, early, end-none es (omega (arith, zero)))
    ]
      where
        by : 0 < off_from es → RestOk es t x → ⊥
        by some (inl none) = false≢true (sym (none (off_from es - 1)) ∙ is.last some)
        by some (inr has) = early_by t early some has (was_off es (REST + x) (off_from es)) refl

    late_by : (t : ℕ) → rest_end es ≤ t → end_of (last_tour es) ≤ off_from es → 0 < off_from es → (b : Bool) → was_off es (REST + x) (off_from es) ≡ b → HasRested es t x
    late_by t late closed some true was =
        let ten : off_from es + REST ≤ t = omega (arith, late, end-taken es some was) in
        record {
          ten_hours = ten;
          stretch = stretch-same (is_off es) (is_off es) (REST + x) (end_of (last_tour es)) (off_from es) t (taken.0 was) (omega (arith, ten)) (λ u low. refl);
        }
    late_by t late closed some false not =
        let all : off_from es + REST + x ≤ t = omega (arith, late, end-owed es some not) in
        record {
          ten_hours = omega (arith, all);
          stretch = record {
            first = off_from es;
            begins = closed;
            ends = omega (arith, all);
            each = λ u low high. off-unless_worked es lawful off u (is.after u low);
          };
        }

    from : end_of (last_tour es) ≤ off_from es → (t : ℕ) → rest_end es ≤ t → RestOk es t x
    from closed t late = elim (cases_lt 0 (off_from es)) [
      | inl some ↦ inr (late_by t late closed some (was_off es (REST + x) (off_from es)) refl)
      | inr zero ↦ inl (λ u. is.after u (omega (arith, zero)))
    ]
