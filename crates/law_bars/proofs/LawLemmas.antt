-- The first bar of the law, by its parts, and what keeps nobody back.
use Rattle.std.proofs.Common.{◌≡◌, ℕ, ◌+◌, ◌<◌, ◌≤◌, ◌⊎◌, ◌==◌, ◌&&◌, Bool, true, false, not, nat_lt, if◌then◌else◌, inl, inr, Option, None, Some, IsNone, List, [], ◌∷◌, ◌++◌, refl, sym, subst, ap, ◌∙◌, arith}
use Rattle.std.specs.Option.{option_or, option_map}
use Rattle.std.proofs.lemmas.Bool.{false≢true}
use Rattle.std.proofs.lemmas.Bool.Decides.{Decides-eqb}
use Rattle.rest_rules.specs.declared.rest.TheConstants.{REST}
use Rattle.consecutive_days.specs.declared.run.TheConstants.{OFF_AFTER_SEVEN_DAYS, OFF_AFTER_SIX_DAYS, SIX_DAYS}
use Rattle.duty_events.specs.declared.event.Event.{Event}
use Rattle.duty_events.specs.Lists.{IsLawful}
use Rattle.denial_rules.specs.declared.bar.Bar.{Bar}
use Rattle.denial_rules.specs.declared.bar.Bar.TheVariants as bar
use Rattle.denial_rules.specs.Table.{first_some}
use Rattle.denial_rules.proofs.TableLemmas.{both-none, first_some-append}
use Rattle.rest_rules.specs.OffFrom.{works, off_from, OffFromInWords}
use Rattle.rest_rules.specs.Excess.{excess}
use Rattle.rest_rules.specs.Rest.{rest_ok, rest_end, RestOk, RestInWords}
use Rattle.month_hours.specs.Plan.{plan_of}
use Rattle.month_hours.specs.Over.{over_month, over_limbo, HoursInWords, LimboInWords}
use Rattle.consecutive_days.specs.Run.{run_days, need}
use Rattle.consecutive_days.specs.Days.{days_ok, DaysInWords}
use Rattle.law_bars.specs.Law.{rest_row, more_rest_row, undisturbed_row, six_days_row, seven_days_row, month_row, limbo_row, law_rows, law_bar, KeepsLaw, LawInWords}

-- the first of rest, else the first of the days, else the first of the hours
pub law_bar-parts : (es : List Event) (home : List ℕ) (moment report duty limbo : ℕ) (rest days hours : Option Bar)
    → rest ≡ first_some (rest_row es report ∷ more_rest_row es report ∷ undisturbed_row es moment ∷ [])
    → days ≡ first_some (six_days_row es home report ∷ seven_days_row es home report ∷ [])
    → hours ≡ first_some (month_row es report duty limbo ∷ limbo_row es report duty limbo ∷ [])
    → law_bar es home moment report duty limbo ≡ option_or rest (option_or days hours)
unfolding law_bar
law_bar-parts es home moment report duty limbo rest days hours rest_is days_is hours_is =
    let one = rest_row es report ∷ more_rest_row es report ∷ undisturbed_row es moment ∷ [] in
    let two = six_days_row es home report ∷ seven_days_row es home report ∷ [] in
    let three = month_row es report duty limbo ∷ limbo_row es report duty limbo ∷ [] in
    rw (rest_is, days_is, hours_is) (first_some-append one (two ++ three) ∙ ap (option_or (first_some one)) (first_some-append two three))

-- a row that holds where something isn't so
kept-none : (b : Bool) (held : Bar) → ((if b then None else Some held) ≡ None → b ≡ true) × (b ≡ true → (if b then None else Some held) ≡ None)
kept-none true held = (λ is. refl, λ is. refl)
kept-none false held = (λ is. cc, λ is. absurd (false≢true is))

-- a row doesn't hold just where its section is kept
rest_row-none : (es : List Event) (report : ℕ) → (rest_row es report ≡ None → rest_ok es report 0 ≡ true) × (rest_ok es report 0 ≡ true → rest_row es report ≡ None)
rest_row-none es report = kept-none (rest_ok es report 0) (bar.Rest (off_from es + REST))

more_rest_row-none : (es : List Event) (report : ℕ) → (more_rest_row es report ≡ None → rest_ok es report (excess es) ≡ true) × (rest_ok es report (excess es) ≡ true → more_rest_row es report ≡ None)
more_rest_row-none es report = kept-none (rest_ok es report (excess es)) (bar.MoreRest (rest_end es))

undisturbed_row-none : (es : List Event) (moment : ℕ) → (undisturbed_row es moment ≡ None → rest_ok es moment (excess es) ≡ true) × (rest_ok es moment (excess es) ≡ true → undisturbed_row es moment ≡ None)
undisturbed_row-none es moment = kept-none (rest_ok es moment (excess es)) (bar.Undisturbed (rest_end es))

-- where the time off is wanting, six days need it or seven
need-six_or_seven : (run : ℕ) → ((need run == 0) ≡ true) ⊎ (((need run == OFF_AFTER_SIX_DAYS) ≡ true) ⊎ ((need run == OFF_AFTER_SEVEN_DAYS) ≡ true))
need-six_or_seven run = go (nat_lt run SIX_DAYS) (run == SIX_DAYS)
  where
    go : (few six : Bool) → (((if few then 0 else (if six then OFF_AFTER_SIX_DAYS else OFF_AFTER_SEVEN_DAYS)) == 0) ≡ true)
        ⊎ ((((if few then 0 else (if six then OFF_AFTER_SIX_DAYS else OFF_AFTER_SEVEN_DAYS)) == OFF_AFTER_SIX_DAYS) ≡ true) ⊎ (((if few then 0 else (if six then OFF_AFTER_SIX_DAYS else OFF_AFTER_SEVEN_DAYS)) == OFF_AFTER_SEVEN_DAYS) ≡ true))
    go true six = inl refl
    go false true = inr (inl refl)
    go false false = inr (inr refl)

days-none : DaysInWords → (es : List Event) (home : List ℕ) (report : ℕ) → six_days_row es home report ≡ None → seven_days_row es home report ≡ None → days_ok es home report ≡ true
days-none days es home report six seven = go (days_ok es home report) (need-six_or_seven (run_days es)) refl six seven
  where
    wanting : (b : Bool) → b ≡ true → (held : Bar) → (if not false && b then Some held else None) ≡ None → false ≡ true
    wanting true is held none = cc
    wanting false is held none = is

    go : (ok : Bool) → ((need (run_days es) == 0) ≡ true) ⊎ (((need (run_days es) == OFF_AFTER_SIX_DAYS) ≡ true) ⊎ ((need (run_days es) == OFF_AFTER_SEVEN_DAYS) ≡ true)) → days_ok es home report ≡ ok
        → (if not ok && (need (run_days es) == OFF_AFTER_SIX_DAYS) then Some (bar.SixDays (run_days es) (need (run_days es))) else None) ≡ None
        → (if not ok && (need (run_days es) == OFF_AFTER_SEVEN_DAYS) then Some (bar.SevenDays (run_days es) (need (run_days es))) else None) ≡ None → ok ≡ true
    go true which is six seven = refl
    go false (inl zero) is six seven = sym is ∙ (days es home report).1 (inl ((Decides-eqb (need (run_days es)) 0).0 zero))
    go false (inr (inl need_six)) is six seven = wanting (need (run_days es) == OFF_AFTER_SIX_DAYS) need_six _ six
    go false (inr (inr need_seven)) is six seven = wanting (need (run_days es) == OFF_AFTER_SEVEN_DAYS) need_seven _ seven

days-kept : (es : List Event) (home : List ℕ) (report : ℕ) → days_ok es home report ≡ true → (six_days_row es home report ≡ None) × (seven_days_row es home report ≡ None)
days-kept es home report ok = (rw ok refl, rw ok refl)

option_map-none : {X : Type 0} (f : X → Bar) (o : Option X) → (option_map f o ≡ None → o ≡ None) × (o ≡ None → option_map f o ≡ None)
option_map-none f None = (λ is. refl, λ is. refl)
option_map-none f (Some x) = (λ is. cc, λ is. cc)

-- no row holds just where each section is kept
pub law_bar-free : RestInWords → DaysInWords → HoursInWords → LimboInWords → LawInWords
unfolding law_bar
law_bar-free rested had worked waited es home moment report duty limbo lawful = (kept, none)
  where
    kept : first_some (law_rows es home moment report duty limbo) ≡ None → KeepsLaw es home moment report duty limbo
    kept is =
        let rest = both-none (rest_row es report) _ is in
        let more = both-none (more_rest_row es report) _ rest.1 in
        let undisturbed = both-none (undisturbed_row es moment) _ more.1 in
        let six = both-none (six_days_row es home report) _ undisturbed.1 in
        let seven = both-none (seven_days_row es home report) _ six.1 in
        let month = both-none (month_row es report duty limbo) _ seven.1 in
        let waiting = both-none (limbo_row es report duty limbo) [] month.1 in
        let plan = plan_of report duty limbo in record {
          rest = (rested es report 0 lawful).0 ((rest_row-none es report).0 rest.0);
          more_rest = (rested es report (excess es) lawful).0 ((more_rest_row-none es report).0 more.0);
          undisturbed = (rested es moment (excess es) lawful).0 ((undisturbed_row-none es moment).0 undisturbed.0);
          days = (had es home report).0 (days-none had es home report six.0 seven.0);
          month = (worked es plan).0 ((option_map-none _ (over_month es plan)).0 month.0);
          waiting = (waited es plan).0 ((option_map-none _ (over_limbo es plan)).0 waiting.0);
        }

    none : KeepsLaw es home moment report duty limbo → first_some (law_rows es home moment report duty limbo) ≡ None
    none keeps =
        let days = days-kept es home report ((had es home report).1 keeps.days) in
        let plan = plan_of report duty limbo in
        rw (
          (rest_row-none es report).1 ((rested es report 0 lawful).1 keeps.rest),
          (more_rest_row-none es report).1 ((rested es report (excess es) lawful).1 keeps.more_rest),
          (undisturbed_row-none es moment).1 ((rested es moment (excess es) lawful).1 keeps.undisturbed),
          days.0,
          days.1,
          (worked es plan).1 keeps.month,
          (waited es plan).1 keeps.waiting,
        ) refl

is_none : (o : Option Bar) → IsNone o → o ≡ None
is_none None none = refl
is_none (Some b) none = cc

pub free-of : LawInWords → (o : Option Bar) (es : List Event) (home : List ℕ) (moment report duty limbo : ℕ) → IsLawful es → o ≡ law_bar es home moment report duty limbo
    → (IsNone o → KeepsLaw es home moment report duty limbo) × (KeepsLaw es home moment report duty limbo → IsNone o)
free-of kept o es home moment report duty limbo lawful is =
    let free = kept es home moment report duty limbo lawful in (
      λ none. free.0 (sym is ∙ is_none o none),
      λ keeps. subst IsNone (sym (is ∙ free.1 keeps)) refl,
    )

-- who has rested did no work in the ten hours before
pub rested-not_worked : OffFromInWords → (es : List Event) (at t : ℕ) → IsLawful es → RestOk es at 0 → t < at → at ≤ t + REST → works es t ≡ false
rested-not_worked off es at t lawful (inl all) early late = all t
rested-not_worked off es at t lawful (inr has) early late = (off es lawful).after t (omega (arith, has.ten_hours, late))
