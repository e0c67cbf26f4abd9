-- The minutes of a lawful list before its latest have a kind; and where no tour runs, a minute that isn't worked is off.
use Rattle.std.proofs.Common.{◌≡◌, ℕ, ◌-◌, ◌<◌, Bool, true, false, nat_lt, if◌then◌else◌, inl, inr, Option, None, Some, IsOk, List, [], ◌∷◌, ◌++◌, refl, sym, ap, ◌∙◌, arith}
use Rattle.std.specs.Option.{option_or}
use Rattle.std.proofs.lemmas.Bool.{false≢true, cases_lt, lt-ltb}
use Rattle.std.proofs.lemmas.Option.{none-some}
use Rattle.std.proofs.lemmas.List.Folds.{find-append}
use Rattle.duty_events.specs.declared.limits.TheConstants.{OFF_DUTY_INTERIM}
use Rattle.duty_events.specs.declared.kind.Kind.{Kind}
use Rattle.duty_events.specs.declared.kind.Kind.TheVariants as kind
use Rattle.duty_events.specs.declared.event.Event.{Event}
use Rattle.duty_events.specs.declared.event.Event.TheVariants as event
use Rattle.duty_events.specs.declared.stage.Stage.{Stage}
use Rattle.duty_events.specs.declared.stage.Stage.TheVariants as stage
use Rattle.duty_events.specs.declared.minute_kind.MinuteKind.{MinuteKind}
use Rattle.duty_events.specs.declared.minute_kind.MinuteKind.TheVariants as minute
use Rattle.duty_events.specs.Allowed.{allow}
use Rattle.duty_events.specs.Lists.{IsLawful, stage_after, stage_of, last_event, latest, reached}
use Rattle.duty_events.specs.MinuteKind.{Leads, ToResumed, ToInterim, Mark, marks, mark_before, mark_after, resumed, interim, counted, kind_between, kind_of, is_worked, is_off_duty}
use Rattle.duty_events.specs.Between.{kind_behind}
use Rattle.duty_events.proofs.ListLemmas.{lawful-induction, stage_of-push, last_event-push}
use Rattle.duty_events.proofs.EventLemmas.{shape_of, Shape, last_mark, kind_of-behind}

-- it is not of an interim that has not ended
abbrev pub IsKnown : MinuteKind → Type 0
IsKnown k = k ≡ minute.Open → ⊥

known-either : (b : Bool) → IsKnown (if b then minute.OnDuty else minute.Off)
known-either true is = cc
known-either false is = cc

known-resumed : (k : Kind) (n : ℕ) → IsKnown (resumed k n)
known-resumed kind.O n is = cc
known-resumed kind.D n is = known-either (nat_lt n OFF_DUTY_INTERIM) is
known-resumed kind.P n is = known-either (nat_lt n OFF_DUTY_INTERIM) is

known-interim : (k : Kind) (n : ℕ) (next : Leads) → IsKnown (interim k n next)
known-interim k n ToResumed is = known-resumed k n is
known-interim k n next is = cc

known-counted : (leads : Leads) (n : ℕ) (next : Leads) → IsKnown (counted leads n next)
known-counted (ToInterim k) n next is = known-interim k n next is
known-counted leads n next is = cc

-- before the latest minute there is a mark behind
known-between : (a b : Option Mark) → (b ≡ None → ⊥) → IsKnown (kind_between a b)
known-between None b some is = cc
known-between (Some a) None some is = some refl
known-between (Some a) (Some b) some is = known-counted a.leads (b.at - a.at) b.leads is

or-some : (o : Option Mark) (m : Mark) → option_or o (Some m) ≡ None → ⊥
or-some None m is = none-some m (sym is)
or-some (Some n) m is = none-some n (sym is)

mark_after-early : (ns : List Mark) (m : Mark) (t : ℕ) → t < m.at → mark_after (ns ++ m ∷ []) t ≡ None → ⊥
mark_after-early ns m t early none =
    or-some (mark_after ns t) m (ap (option_or (mark_after ns t)) (sym (rw (lt-ltb t m.at early) refl)) ∙ sym (find-append (λ x. nat_lt t x.at) ns (m ∷ [])) ∙ none)

pub kind_of-known : (es : List Event) → IsLawful es → (t : ℕ) → t < reached (last_event es) → IsKnown (kind_of es t)
unfolding kind_of
kind_of-known es lawful t early = known-between (mark_before (marks es) t) (mark_after (marks es) t) (go (last_event es) (marks es) (shape_of es lawful) early)
  where
    go : (o : Option Event) (ms : List Mark) → Shape o ms → t < reached o → mark_after ms t ≡ None → ⊥
    go None ms shape early none = absurd (omega (arith, early))
    go (Some p) ms shape early none =
        mark_after-early shape.earlier (last_mark shape.from p) t early (ap (λ ns. mark_after ns t) (sym shape.is) ∙ none)

-- behind it no interim runs
not_interim : (s : Stage) (t : ℕ) (k : Kind) (place : List ℕ) (last : Option ℕ) → IsOk (allow s (event.Interim t k place) last) → stage_after s (event.Interim t k place) ≡ stage.Off → ⊥
not_interim stage.Duty t k place last ok off = cc
not_interim s t k place last ok off = false≢true ok

off_behind : (s : Stage) (e : Event) (last : Option ℕ) → IsOk (allow s e last) → stage_after s e ≡ stage.Off → kind_behind (Some e) ≡ minute.Off
off_behind s (event.Interim t k place) last ok off = absurd (not_interim s t k place last ok off)
off_behind s e last ok off = refl

pub off-behind : (es : List Event) → IsLawful es → stage_of es ≡ stage.Off → kind_behind (last_event es) ≡ minute.Off
off-behind es lawful =
    lawful-induction (λ xs. stage_of xs ≡ stage.Off → kind_behind (last_event xs) ≡ minute.Off) (λ off. refl)
    (λ old e before next was off. ap kind_behind (last_event-push old e) ∙ off_behind (stage_of old) e (latest old) next.allowed (sym (stage_of-push old e) ∙ off))
    es lawful

pub settled : (k : MinuteKind) → IsKnown k → is_worked k ≡ false → is_off_duty k ≡ true
settled minute.Off known not = refl
settled minute.Open known not = absurd (known refl)
settled k known not = absurd (false≢true (sym not))

pub off-unless_worked : (es : List Event) → IsLawful es → stage_of es ≡ stage.Off → (t : ℕ) → is_worked (kind_of es t) ≡ false → is_off_duty (kind_of es t) ≡ true
off-unless_worked es lawful off t not = elim (cases_lt t (reached (last_event es))) [
  | inl early ↦ settled (kind_of es t) (kind_of-known es lawful t early) not
  | inr late ↦ ap is_off_duty (kind_of-behind es lawful t late ∙ off-behind es lawful off)
]
