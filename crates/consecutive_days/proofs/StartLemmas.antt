-- The starts of tours, one event more, and the days in a row that have one.
use Rattle.std.proofs.Common.{◌≡◌, ℕ, suc, ◌+◌, ◌≤◌, ◌==◌, Bool, true, false, ◌||◌, Option, None, Some, List, [], ◌∷◌, ◌++◌, fold, refl, sym, subst, ap, ◌∙◌, arith, if◌then◌else◌}
use Rattle.std.specs.List.{list_any}
use Rattle.std.proofs.Math.Bool.{or-false}
use Rattle.std.proofs.lemmas.List.{append-nil}
use Rattle.std.proofs.lemmas.List.Folds.{list_any-append}
use Rattle.std.proofs.lemmas.List.Sums.{fold_push}
use Rattle.desk_base.specs.Day.{day_of}
use Rattle.duty_events.specs.declared.event.Event.{Event}
use Rattle.duty_events.specs.Allowed.{first_minute, last_minute}
use Rattle.duty_events.specs.Lists.{IsNext, IsLawful, stage_of, last_event, reached}
use Rattle.duty_events.specs.MinuteKind.{begins}
use Rattle.duty_events.proofs.ListLemmas.{last_event-push, lawful-induction}
use Rattle.duty_events.proofs.EventLemmas.{follows-reached}
use Rattle.duty_events.specs.Tours.{starts}
use Rattle.duty_events.proofs.TourLemmas.{starts-push}
use Rattle.consecutive_days.specs.Run.{starts_on, last_start, run_before, run_from, run_days, IsRun}
use Rattle.consecutive_days.specs.Steps.{last_day, next_run}
use Rattle.consecutive_days.proofs.RunLemmas.{run_before-same, run_before-most, is_run_to, Counts, also, counts-also, counts-first}

-- the starts of a list, one event more
starts-begins : (es : List Event) (e : Event) → begins (stage_of es) e ≡ true → starts (es ++ e ∷ []) ≡ starts es ++ first_minute e ∷ []
starts-begins es e is = starts-push es e ∙ rw is refl

starts-other : (es : List Event) (e : Event) → begins (stage_of es) e ≡ false → starts (es ++ e ∷ []) ≡ starts es
starts-other es e is = starts-push es e ∙ rw is (append-nil (starts es))

last_start-begins : (es : List Event) (e : Event) → begins (stage_of es) e ≡ true → last_start (es ++ e ∷ []) ≡ Some (first_minute e)
unfolding last_start
last_start-begins es e is = ap (fold (λ o t. Some t) None) (starts-begins es e is) ∙ fold_push (λ o t. Some t) None (starts es) (first_minute e)

last_start-other : (es : List Event) (e : Event) → begins (stage_of es) e ≡ false → last_start (es ++ e ∷ []) ≡ last_start es
unfolding last_start
last_start-other es e is = ap (fold (λ o t. Some t) None) (starts-other es e is)

starts_on-begins : (es : List Event) (e : Event) → begins (stage_of es) e ≡ true → also (starts_on es) (day_of (first_minute e)) (starts_on (es ++ e ∷ []))
unfolding starts_on also
starts_on-begins es e is d =
    ap (list_any (λ t. day_of t == d)) (starts-begins es e is)
    ∙ list_any-append (λ t. day_of t == d) (starts es) (first_minute e ∷ [])
    ∙ ap (λ b. starts_on es d || b) (or-false (day_of (first_minute e) == d))

starts_on-other : (es : List Event) (e : Event) (d : ℕ) → begins (stage_of es) e ≡ false → starts_on (es ++ e ∷ []) d ≡ starts_on es d
unfolding starts_on
starts_on-other es e d is = ap (list_any (λ t. day_of t == d)) (starts-other es e is)

-- the days in a row and the last of them, for a list whose last start is this
record CountsFrom (es : List Event) (t run last : ℕ) : Type 0 where
  pub day : last ≡ day_of t
  pub by : t ≤ reached (last_event es)
  pub counts : Counts (starts_on es) run last

record CountsNone (es : List Event) (run last : ℕ) : Type 0 where
  pub none : run ≡ 0
  pub behind : last ≡ 0
  pub each : (d : ℕ) → starts_on es d ≡ false

abbrev CountsTo : List Event → Option ℕ → ℕ → ℕ → Type 0
CountsTo es None run last = CountsNone es run last
CountsTo es (Some t) run last = CountsFrom es t run last

record Stands (es : List Event) (run last : ℕ) : Type 0 where
  is : CountsTo es (last_start es) run last

stands-nil : Stands [] 0 0
unfolding last_start starts starts_on
stands-nil = record { is = record { none = refl; behind = refl; each = λ d. refl } }

-- not behind the event that comes
last-by : (es : List Event) (o : Option ℕ) (run last first : ℕ) → CountsTo es o run last → reached (last_event es) ≤ first → last ≤ day_of first
last-by es None run last first counts order = omega (arith, counts.behind)
last-by es (Some t) run last first counts order = omega (arith, counts.day, counts.by, order)

run-by : (es : List Event) (o : Option ℕ) (run last : ℕ) → CountsTo es o run last → run ≤ last + 1
run-by es None run last counts = omega (arith, counts.none)
run-by es (Some t) run last counts = omega (arith, counts.counts.counts, run_before-most (starts_on es) (suc last))

begins-counts : (es : List Event) (e : Event) (o : Option ℕ) (run last : ℕ) → IsNext es e → begins (stage_of es) e ≡ true → CountsTo es o run last
    → Counts (starts_on (es ++ e ∷ [])) (next_run run last (day_of (first_minute e))) (day_of (first_minute e))
begins-counts es e None run last next is counts =
    rw counts.none (counts-first (starts_on es) (starts_on (es ++ e ∷ [])) last (day_of (first_minute e)) counts.each (starts_on-begins es e is))
begins-counts es e (Some t) run last next is counts =
    counts-also (starts_on es) (starts_on (es ++ e ∷ [])) run last (day_of (first_minute e)) counts.counts (starts_on-begins es e is)
    (last-by es (Some t) run last (first_minute e) counts (follows-reached (last_event es) (stage_of es) e next))

stands-begins : (es : List Event) (e : Event) (run last : ℕ) → IsNext es e → begins (stage_of es) e ≡ true → Stands es run last
    → Stands (es ++ e ∷ []) (next_run run last (day_of (first_minute e))) (day_of (first_minute e))
stands-begins es e run last next is stands = record {
  is = rw (last_start-begins es e is) (record {
    day = refl;
    by = rw (last_event-push es e) next.whole;
    counts = begins-counts es e (last_start es) run last next is stands.is;
  });
}

other-counts : (es : List Event) (e : Event) (o : Option ℕ) (run last : ℕ) → IsNext es e → begins (stage_of es) e ≡ false → CountsTo es o run last → CountsTo (es ++ e ∷ []) o run last
other-counts es e None run last next is counts = record {
  none = counts.none;
  behind = counts.behind;
  each = λ d. starts_on-other es e d is ∙ counts.each d;
}
other-counts es e (Some t) run last next is counts =
    let later : reached (last_event (es ++ e ∷ [])) ≡ last_minute e = ap reached (last_event-push es e) in
    record {
      day = counts.day;
      by = omega (arith, later, counts.by, follows-reached (last_event es) (stage_of es) e next, next.whole);
      counts = record {
        here = starts_on-other es e last is ∙ counts.counts.here;
        counts = counts.counts.counts ∙ run_before-same (starts_on es) (starts_on (es ++ e ∷ [])) (suc last) (λ d low. sym (starts_on-other es e d is));
        none_after = λ d late. starts_on-other es e d is ∙ counts.counts.none_after d late;
      };
    }

stands-other : (es : List Event) (e : Event) (run last : ℕ) → IsNext es e → begins (stage_of es) e ≡ false → Stands es run last → Stands (es ++ e ∷ []) run last
stands-other es e run last next is stands = record {
  is = rw (last_start-other es e is) (other-counts es e (last_start es) run last next is stands.is);
}

-- in the end
counted : (es : List Event) (o : Option ℕ) (run last : ℕ) → CountsTo es o run last → run ≡ run_from (starts_on es) o
counted es None run last counts = counts.none
counted es (Some t) run last counts = counts.counts.counts ∙ ap (λ d. run_before (starts_on es) (suc d)) counts.day

is_run : (es : List Event) (o : Option ℕ) (run last : ℕ) → CountsTo es o run last → IsRun (starts_on es) o (run_from (starts_on es) o)
is_run es None run last counts = refl
is_run es (Some t) run last counts = is_run_to (starts_on es) (day_of t) (subst (λ d. starts_on es d ≡ true) counts.day counts.counts.here)

stands-counts : (es : List Event) (run last : ℕ) → Stands es run last → run ≡ run_days es
unfolding run_days
stands-counts es run last stands = counted es (last_start es) run last stands.is

-- the day of the last start
day_is : (es : List Event) (o : Option ℕ) (run last : ℕ) → CountsTo es o run last → last ≡ last_day o
day_is es None run last counts = counts.behind
day_is es (Some t) run last counts = counts.day

stands-day : (es : List Event) (run last : ℕ) → Stands es run last → last ≡ last_day (last_start es)
stands-day es run last stands = day_is es (last_start es) run last stands.is

-- a lawful list's days in a row stand so
stands_of : (es : List Event) → IsLawful es → Stands es (run_days es) (last_day (last_start es))
stands_of es lawful =
    lawful-induction (λ xs. Stands xs (run_days xs) (last_day (last_start xs))) (told [] 0 0 stands-nil)
    (λ old e before next stands. more old e next stands (begins (stage_of old) e) refl)
    es lawful
  where
    told : (xs : List Event) (run last : ℕ) → Stands xs run last → Stands xs (run_days xs) (last_day (last_start xs))
    told xs run last stands = rw (sym (stands-counts xs run last stands), sym (stands-day xs run last stands)) stands

    more : (xs : List Event) (e : Event) → IsNext xs e → Stands xs (run_days xs) (last_day (last_start xs)) → (b : Bool) → begins (stage_of xs) e ≡ b
        → Stands (xs ++ e ∷ []) (run_days (xs ++ e ∷ [])) (last_day (last_start (xs ++ e ∷ [])))
    more xs e next stands true is = told _ _ _ (stands-begins xs e _ _ next is stands)
    more xs e next stands false is = told _ _ _ (stands-other xs e _ _ next is stands)

pub last_start-push : (es : List Event) (e : Event) → last_start (es ++ e ∷ []) ≡ (if begins (stage_of es) e then Some (first_minute e) else last_start es)
last_start-push es e = go (begins (stage_of es) e) refl
  where
    go : (b : Bool) → begins (stage_of es) e ≡ b → last_start (es ++ e ∷ []) ≡ (if b then Some (first_minute e) else last_start es)
    go true is = last_start-begins es e is
    go false is = last_start-other es e is

pub run_days-push : (es : List Event) (e : Event) → IsLawful es → IsNext es e
    → run_days (es ++ e ∷ []) ≡ (if begins (stage_of es) e then next_run (run_days es) (last_day (last_start es)) (day_of (first_minute e)) else run_days es)
run_days-push es e lawful next = go (begins (stage_of es) e) refl
  where
    go : (b : Bool) → begins (stage_of es) e ≡ b
        → run_days (es ++ e ∷ []) ≡ (if b then next_run (run_days es) (last_day (last_start es)) (day_of (first_minute e)) else run_days es)
    go true is = sym (stands-counts _ _ _ (stands-begins es e _ _ next is (stands_of es lawful)))
    go false is = sym (stands-counts _ _ _ (stands-other es e _ _ next is (stands_of es lawful)))

pub last_day-order : (es : List Event) (e : Event) → IsLawful es → IsNext es e → last_day (last_start es) ≤ day_of (first_minute e)
last_day-order es e lawful next =
    last-by es (last_start es) (run_days es) (last_day (last_start es)) (first_minute e) (stands_of es lawful).is (follows-reached (last_event es) (stage_of es) e next)

pub run_days-most : (es : List Event) → IsLawful es → run_days es ≤ last_day (last_start es) + 1
run_days-most es lawful = run-by es (last_start es) (run_days es) (last_day (last_start es)) (stands_of es lawful).is

pub run_days-is : (es : List Event) → IsLawful es → IsRun (starts_on es) (last_start es) (run_days es)
unfolding run_days
run_days-is es lawful = is_run es (last_start es) (run_days es) (last_day (last_start es)) (stands_of es lawful).is

pub last_start-nil : last_start [] ≡ None
unfolding last_start starts
last_start-nil = refl

pub run_days-nil : run_days [] ≡ 0
unfolding run_days
run_days-nil = rw last_start-nil refl
