-- A minute of the last tour that has ended belongs to it by the marks too.
use Rattle.std.proofs.Common.{◌+◌, ◌-◌, ◌≡◌, ℕ, ◌<◌, ◌≤◌, Bool, true, false, cond, ◌&&◌, nat_le, if◌then◌else◌, Option, None, Some, IfSome, List, [], ◌∷◌, ◌++◌, reverse, refl, sym, subst, ap, ◌∙◌, arith}
use Rattle.desk_base.specs.declared.minute.TheConstants.{YEARS_END}
use Rattle.std.specs.Option.{option_or, option_map}
use Rattle.std.specs.List.{find}
use Rattle.std.proofs.lemmas.Bool.{le-leb}
use Rattle.std.proofs.lemmas.Option.{same_Some}
use Rattle.std.proofs.lemmas.List.{reverse-append}
use Rattle.std.proofs.lemmas.List.Folds.{find-append}
use Rattle.duty_events.specs.declared.event.Event.{Event}
use Rattle.duty_events.specs.declared.event.Event.TheVariants as event
use Rattle.duty_events.specs.declared.stage.Stage.{Stage}
use Rattle.duty_events.specs.declared.stage.Stage.TheVariants as stage
use Rattle.duty_events.specs.declared.tour.Tour.{Tour}
use Rattle.duty_events.specs.Allowed.{first_minute, last_minute}
use Rattle.duty_events.specs.Lists.{IsNext, IsLawful, stage_after, stage_of, last_event, latest, reached}
use Rattle.duty_events.specs.MinuteKind.{Mark, mark_of, begins, last_leads, marks_of, marks_from, marks}
use Rattle.duty_events.specs.Places.{tour_end}
use Rattle.duty_events.specs.Tours.{tour_mark, start_at, tour_start, begun_at, sum_so_far, more_until, tour_minutes_between}
use Rattle.duty_events.specs.declared.asked.Asked.TheVariants as asked
use Rattle.duty_events.specs.Asked.{asked_minutes}
use Rattle.duty_events.specs.EndedTours.{begun, ended, last_tour, begun_from, last_begun}
use Rattle.duty_events.proofs.ListLemmas.{last_event-push, lawful-induction}
use Rattle.duty_events.proofs.EventLemmas.{follows-reached, reached-years}
use Rattle.duty_events.proofs.TourLemmas.{tour_start-early, sum-until, more_until-last, sum_so_far-push}
use Rattle.duty_events.proofs.PlaceLemmas.{IsSince, since_of, BeganLast, began_last}
use Rattle.duty_events.proofs.EndedTourLemmas.{last_tour-nil, last_tour-push}

-- the last mark at which a tour begins
abbrev last_begins : List Mark → Option Mark
last_begins ms = find (λ m. m.begins) (reverse ms)

abbrev minute_of : Option Mark → Option ℕ
minute_of o = option_map (λ m. m.at) o

-- it is the event where the last tour began
event-begun : (s : Stage) (start : Option ℕ) (e : Event) → option_or (minute_of (last_begins (marks_of s e))) start ≡ begun s start e
event-begun s start (event.Other span place) = refl
event-begun s start e = go (begins s e)
  where
    go : (b : Bool) → option_or (minute_of (last_begins (mark_of (last_minute e) (last_leads e) b ∷ []))) start ≡ (if b then Some (last_minute e) else start)
    go true = refl
    go false = refl

minute_of-or : (a b : Option Mark) (start : Option ℕ) → option_or (minute_of (option_or a b)) start ≡ option_or (minute_of a) (option_or (minute_of b) start)
minute_of-or None b start = refl
minute_of-or (Some m) b start = refl

marks-begun : (s : Stage) (start : Option ℕ) (es : List Event) → option_or (minute_of (last_begins (marks_from s es))) start ≡ begun_from s start es
marks-begun s start [] = refl
marks-begun s start (e ∷ es) =
    let later = marks_from (stage_after s e) es in
    ap (λ xs. option_or (minute_of (find (λ m. m.begins) xs)) start) (reverse-append (marks_of s e) later)
    ∙ ap (λ o. option_or (minute_of o) start) (find-append (λ m. m.begins) (reverse later) (reverse (marks_of s e)))
    ∙ minute_of-or (last_begins later) (last_begins (marks_of s e)) start
    ∙ ap (option_or (minute_of (last_begins later))) (event-begun s start e)
    ∙ marks-begun (stage_after s e) (begun s start e) es

-- a minute from there on is of that tour
find-narrow : (t : ℕ) (xs : List Mark) (m : Mark) → find (λ x. x.begins) xs ≡ Some m → m.at ≤ t → find (λ x. nat_le x.at t && x.begins) xs ≡ Some m
find-narrow t [] m found from = cc
find-narrow t (x ∷ xs) m found from = go x.begins refl found (find-narrow t xs m)
  where
    and-false : (b : Bool) → (b && false) ≡ false
    and-false true = refl
    and-false false = refl

    go : (b : Bool) → x.begins ≡ b → cond b (Some x) (find (λ x. x.begins) xs) ≡ Some m
        → (find (λ x. x.begins) xs ≡ Some m → m.at ≤ t → find (λ x. nat_le x.at t && x.begins) xs ≡ Some m)
        → cond (nat_le x.at t && x.begins) (Some x) (find (λ x. nat_le x.at t && x.begins) xs) ≡ Some m
    go true is found rest =
        let same : x ≡ m = same_Some x m found in
        let by : nat_le x.at t ≡ true = le-leb x.at t (subst (λ y. y.at ≤ t) (sym same) from) in
        ap (λ c. cond c (Some x) (find (λ y. nat_le y.at t && y.begins) xs)) (ap (λ b. b && x.begins) by ∙ is) ∙ found
    go false is found rest =
        ap (λ c. cond c (Some x) (find (λ y. nat_le y.at t && y.begins) xs)) (ap (λ b. nat_le x.at t && b) is ∙ and-false (nat_le x.at t)) ∙ rest found from

tour_start-begun : (es : List Event) (start t : ℕ) → last_begun es ≡ Some start → start ≤ t → tour_start es t ≡ start
unfolding tour_start
tour_start-begun es start t is from = go (last_begins (marks es)) refl (marks-begun stage.Off None es ∙ is)
  where
    go : (o : Option Mark) → last_begins (marks es) ≡ o → option_or (minute_of o) None ≡ Some start → start_at (tour_mark (marks es) t) ≡ start
    go None found same = cc
    go (Some m) found same =
        let at : m.at ≡ start = same_Some m.at start same in
        ap start_at (find-narrow t (reverse (marks es)) m found (omega (arith, at, from))) ∙ at

-- the minutes of a tour that has ended, by what a minute's tour begins at, and the latest minute
abbrev Owns : (ℕ → ℕ) → ℕ → Option Tour → Type 0
Owns begins_at latest None = Unit {0}
Owns begins_at latest (Some tour) = (tour.end ≤ latest) × ((t : ℕ) → tour.start ≤ t → t < tour.end → begins_at t ≡ tour.start)

owns-later : (before after : ℕ → ℕ) (m first last : ℕ) (old : Option Tour) → m ≤ first → first ≤ last → ((t : ℕ) → t < first → after t ≡ before t) → Owns before m old → Owns after last old
owns-later before after m first last None order whole same owns = tt
owns-later before after m first last (Some tour) order whole same owns = (
  omega (arith, owns.0, order, whole),
  λ t from to. same t (omega (arith, to, owns.0, order)) ∙ owns.1 t from to,
)

ends-by : (s : Stage) (m t : ℕ) → IsSince s m → m ≤ t → tour_end s t ≤ t
ends-by (stage.Interim k since at) m t is order = omega (arith, is, order)
ends-by stage.Off m t is order = omega arith
ends-by stage.Riding m t is order = omega arith
ends-by stage.Duty m t is order = omega arith
ends-by stage.Waiting m t is order = omega arith
ends-by stage.RidingHome m t is order = omega arith

owns-more : (before after : ℕ → ℕ) (s : Stage) (start : Option ℕ) (e : Event) (m : ℕ) (old : Option Tour) → IsSince s m → m ≤ first_minute e → first_minute e ≤ last_minute e
    → ((t : ℕ) → t < first_minute e → after t ≡ before t) → ((k t : ℕ) → start ≡ Some k → k ≤ t → before t ≡ k) → Owns before m old
    → Owns after (last_minute e) (option_or (ended s start e) old)
owns-more before after s None e m old since order whole same running owns = owns-later before after m (first_minute e) (last_minute e) old order whole same owns
owns-more before after s (Some k) (event.Final u place) m old since order whole same running owns =
    let by = ends-by s m u since order in (
      by,
      λ t from to. same t (omega (arith, to, by)) ∙ running k t refl from,
    )
owns-more before after s (Some k) e m old since order whole same running owns = owns-later before after m (first_minute e) (last_minute e) old order whole same owns

owns-push : (es : List Event) (e : Event) → IsLawful es → IsNext es e → Owns (tour_start es) (reached (last_event es)) (last_tour es)
    → Owns (tour_start (es ++ e ∷ [])) (last_minute e) (option_or (ended (stage_of es) (last_begun es) e) (last_tour es))
owns-push es e lawful next owns =
    owns-more (tour_start es) (tour_start (es ++ e ∷ [])) (stage_of es) (last_begun es) e (reached (last_event es)) (last_tour es) (since_of es lawful)
    (follows-reached (last_event es) (stage_of es) e next) next.whole
    (λ t early. tour_start-early es e t next.whole early)
    (λ k t begun from. tour_start-begun es k t begun from)
    owns

owns_of : (es : List Event) → IsLawful es → Owns (tour_start es) (reached (last_event es)) (last_tour es)
owns_of es lawful =
    lawful-induction (λ xs. Owns (tour_start xs) (reached (last_event xs)) (last_tour xs)) (subst (Owns (tour_start []) 0) (sym last_tour-nil) tt)
    (λ old e before next owns. rw (last_tour-push old e, last_event-push old e) (owns-push old e before next owns))
    es lawful

pub owns-whole : (es : List Event) (tour : Tour) → IsLawful es → last_tour es ≡ Some tour → Owns (tour_start es) (reached (last_event es)) (Some tour)
owns-whole es tour lawful is = subst (Owns (tour_start es) (reached (last_event es))) is (owns_of es lawful)

pub last_tour-minutes : (es : List Event) (tour : Tour) → IsLawful es → last_tour es ≡ Some tour → (t : ℕ) → tour.start ≤ t → t < tour.end → tour_start es t ≡ tour.start
last_tour-minutes es tour lawful is t from to = (owns-whole es tour lawful is).1 t from to

-- it ends by the latest minute
pub last_tour-ends : (es : List Event) (o : Option Tour) → IsLawful es → o ≡ last_tour es → IfSome o (λ tour. tour.end ≤ reached (last_event es))
last_tour-ends es None lawful is = tt
last_tour-ends es (Some tour) lawful is = (owns-whole es tour lawful (sym is)).0

pub last_tour-range : (es : List Event) (o : Option Tour) → IsLawful es → o ≡ last_tour es → IfSome o (λ tour. tour.end < YEARS_END)
last_tour-range es None lawful is = tt
last_tour-range es (Some tour) lawful is = omega (arith, (owns-whole es tour lawful (sym is)).0, reached-years es lawful)

-- the tour that an event ends is the last that has begun, and what it sums up is the sum so far
begun_at-is : (es : List Event) (start : ℕ) → last_begun es ≡ Some start → begun_at (marks es) ≡ start
begun_at-is es start is = at (last_begins (marks es)) (marks-begun stage.Off None es ∙ is)
  where
    at : (o : Option Mark) → option_or (minute_of o) None ≡ Some start → start_at o ≡ start
    at None same = cc
    at (Some m) same = same_Some m.at start same

more_until-ended : (s : Stage) (o : Option Event) (t : ℕ) (place : List ℕ) → BeganLast s o
    → more_until o (event.Final t place) (tour_end s t) ≡ tour_minutes_between o (event.Final t place)
more_until-ended (stage.Interim k since at) o t place is = rw is refl
more_until-ended s o t place is = more_until-last o (event.Final t place) (omega arith)

reached-end : (s : Stage) (o : Option Event) (t : ℕ) → IsSince s (reached o) → reached o ≤ t → reached o ≤ tour_end s t
reached-end (stage.Interim k since at) o t is order = omega (arith, is)
reached-end s o t is order = order

pub ended-sum : (es : List Event) (e : Event) → IsLawful es → IsNext es e → (tour : Tour) → ended (stage_of es) (last_begun es) e ≡ Some tour
    → asked_minutes asked.InTour (es ++ e ∷ []) tour.start (tour.end - tour.start) ≡ sum_so_far (es ++ e ∷ [])
ended-sum es e lawful next tour is = go (last_begun es) refl e next is
  where
    go : (o : Option ℕ) → last_begun es ≡ o → (e : Event) → IsNext es e → ended (stage_of es) o e ≡ Some tour
        → asked_minutes asked.InTour (es ++ e ∷ []) tour.start (tour.end - tour.start) ≡ sum_so_far (es ++ e ∷ [])
    go None begun e next is = cc
    go (Some start) begun (event.Final t place) next is =
        let e = event.Final t place in
        let o = last_event es in
        let end = tour_end (stage_of es) t in
        let by = reached-end (stage_of es) o t (since_of es lawful) (follows-reached o (stage_of es) e next) in
        let here : asked_minutes asked.InTour (es ++ e ∷ []) start (end - start) ≡ sum_so_far (es ++ e ∷ []) =
        ap (λ x. asked_minutes asked.InTour (es ++ e ∷ []) x (end - x)) (sym (begun_at-is es start begun))
        ∙ sum-until es e lawful next end by
        ∙ ap (λ n. sum_so_far es + n) (more_until-ended (stage_of es) o t place (began_last es lawful))
        ∙ sym (sum_so_far-push es e lawful next) in
        let same : record { start = start; end = end; place = place } ≡ tour = same_Some _ tour is in
        subst (λ x. asked_minutes asked.InTour (es ++ e ∷ []) x.start (x.end - x.start) ≡ sum_so_far (es ++ e ∷ [])) same here
    go (Some start) begun e next is = cc
