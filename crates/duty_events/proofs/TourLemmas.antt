-- Where tours begin and how many minutes they sum, one event more.
use Rattle.std.proofs.Common.{◌≡◌, ℕ, ◌+◌, ◌-◌, ◌<◌, ◌≤◌, Bool, true, false, cond, ◌&&◌, nat_le, min, if◌then◌else◌, map, Option, None, Some, List, [], ◌∷◌, ◌++◌, reverse, refl, sym, subst, ap, ◌∙◌, arith, append_assoc}
use Rattle.desk_base.specs.declared.minute.TheConstants.{YEARS_END}
use Rattle.std.specs.List.{filter, find}
use Rattle.std.proofs.lemmas.Bool.{le-leb, lt-leb}
use Rattle.std.proofs.lemmas.List.{reverse-append, map-append}
use Rattle.std.proofs.lemmas.List.Elements.{filter-append}
use Rattle.duty_events.specs.declared.event.Event.{Event}
use Rattle.duty_events.specs.declared.event.Event.TheVariants as event
use Rattle.duty_events.specs.declared.stage.Stage.{Stage}
use Rattle.duty_events.specs.Allowed.{first_minute, last_minute}
use Rattle.duty_events.specs.Lists.{IsNext, IsLawful, stage_of, last_event, reached}
use Rattle.duty_events.specs.MinuteKind.{Mark, mark_of, last_leads, ToOther, ToOff, marks_of, marks, kind_of, begins}
use Rattle.duty_events.specs.Between.{between, minutes_between}
use Rattle.duty_events.specs.Minutes.{minutes_where, shared}
use Rattle.duty_events.specs.Tours.{is_in_tour, tour_mark, start_at, tour_start, starts, begun_at, sum_so_far, tour_minutes, tour_minutes_between, more_until}
use Rattle.duty_events.proofs.CountLemmas.{minutes_where-none, minutes_where-same, minutes_where-never, minutes_where-add, minutes_where-most}
use Rattle.duty_events.proofs.MarkLemmas.{AreBy, are_by-push}
use Rattle.duty_events.proofs.ListLemmas.{last_event-push}
use Rattle.duty_events.proofs.EventLemmas.{reached-years, last_mark, shape-by, shape_of, follows-reached, marks-push, kind_of-stays}
use Rattle.duty_events.proofs.PointLemmas.{asks-late, count-push}

are_by-reverse : (t : ℕ) (ms : List Mark) → AreBy t ms → AreBy t (reverse ms)
are_by-reverse t [] by = tt
are_by-reverse t (m ∷ ms) by = subst (AreBy t) (sym (reverse-append (m ∷ []) ms)) (are_by-push t (reverse ms) m (are_by-reverse t ms by.1) by.0)

-- marks behind a minute don't count for its tour
tour_mark-early : (ms : List Mark) (m : Mark) (t : ℕ) → t < m.at → tour_mark (ms ++ m ∷ []) t ≡ tour_mark ms t
tour_mark-early ms m t early =
    ap (find (λ n. nat_le n.at t && n.begins)) (reverse-append ms (m ∷ [])) ∙ rw (lt-leb m.at t early) refl

tour_marks-early : (ms : List Mark) (s : Stage) (e : Event) (t : ℕ) → first_minute e ≤ last_minute e → t < first_minute e → tour_mark (ms ++ marks_of s e) t ≡ tour_mark ms t
tour_marks-early ms s (event.Other span place) t whole early =
    let one = mark_of span.from ToOther false in
    let two = mark_of span.to ToOff false in
    ap (λ ns. tour_mark ns t) (sym (append_assoc ms (one ∷ []) (two ∷ [])))
    ∙ tour_mark-early (ms ++ one ∷ []) two t (omega (arith, whole, early))
    ∙ tour_mark-early ms one t early
tour_marks-early ms s e t whole early = tour_mark-early ms (last_mark s e) t early

pub tour_start-early : (es : List Event) (e : Event) (t : ℕ) → first_minute e ≤ last_minute e → t < first_minute e → tour_start (es ++ e ∷ []) t ≡ tour_start es t
unfolding tour_start
tour_start-early es e t whole early =
    ap (λ ms. start_at (tour_mark ms t)) (marks-push es e) ∙ ap start_at (tour_marks-early (marks es) (stage_of es) e t whole early)

-- behind all marks the tour is the last
find_begins-by : (t : ℕ) (ms : List Mark) → AreBy t ms → find (λ m. nat_le m.at t && m.begins) ms ≡ find (λ m. m.begins) ms
find_begins-by t [] by = refl
find_begins-by t (m ∷ ms) by = rw (le-leb m.at t by.0, find_begins-by t ms by.1) refl

tour_start-late : (es : List Event) (t : ℕ) → AreBy t (marks es) → tour_start es t ≡ begun_at (marks es)
unfolding tour_start
tour_start-late es t by = ap start_at (find_begins-by t (reverse (marks es)) (are_by-reverse t (marks es) by))

found-by : (t : ℕ) (p : Mark → Bool) (ms : List Mark) → AreBy t ms → start_at (find p ms) ≤ t
found-by t p [] by = omega arith
found-by t p (m ∷ ms) by = go (p m) (found-by t p ms by.1)
  where
    go : (b : Bool) → start_at (find p ms) ≤ t → start_at (cond b (Some m) (find p ms)) ≤ t
    go true rest = by.0
    go false rest = rest

begun_at-by : (t : ℕ) (ms : List Mark) → AreBy t ms → begun_at ms ≤ t
begun_at-by t ms by = found-by t (λ m. m.begins) (reverse ms) (are_by-reverse t ms by)

-- where the last tour begins after one event more
begin_here : (b : Bool) (m : Mark) (o : Option Mark) → start_at (cond b (Some m) o) ≡ cond b m.at (start_at o)
begin_here true m o = refl
begin_here false m o = refl

begun_at-push : (ms : List Mark) (m : Mark) → begun_at (ms ++ m ∷ []) ≡ cond m.begins m.at (begun_at ms)
begun_at-push ms m =
    ap (λ ns. start_at (find (λ n. n.begins) ns)) (reverse-append ms (m ∷ [])) ∙ begin_here m.begins m (find (λ n. n.begins) (reverse ms))

begun_at-marks : (ms : List Mark) (s : Stage) (e : Event) → begun_at (ms ++ marks_of s e) ≡ cond (begins s e) (last_minute e) (begun_at ms)
begun_at-marks ms s (event.Other span place) =
    let one = mark_of span.from ToOther false in
    let two = mark_of span.to ToOff false in
    ap begun_at (sym (append_assoc ms (one ∷ []) (two ∷ []))) ∙ begun_at-push (ms ++ one ∷ []) two ∙ begun_at-push ms one
begun_at-marks ms s e = begun_at-push ms (last_mark s e)

pub begun_at-next : (es : List Event) (e : Event) → begun_at (marks (es ++ e ∷ [])) ≡ cond (begins (stage_of es) e) (last_minute e) (begun_at (marks es))
begun_at-next es e = ap begun_at (marks-push es e) ∙ begun_at-marks (marks es) (stage_of es) e

pub start-reached : (es : List Event) → IsLawful es → begun_at (marks es) ≤ reached (last_event es)
start-reached es lawful = begun_at-by (reached (last_event es)) (marks es) (shape-by (last_event es) (marks es) (reached (last_event es)) (shape_of es lawful) (omega arith))

sum_so_far-most : (es : List Event) → sum_so_far es ≤ reached (last_event es)
unfolding sum_so_far
sum_so_far-most es =
    omega (arith, minutes_where-most (λ u. is_in_tour (kind_of es u)) (begun_at (marks es)) (reached (last_event es) - begun_at (marks es)))

pub sum_so_far-range : (es : List Event) → IsLawful es → sum_so_far es < YEARS_END
sum_so_far-range es lawful = omega (arith, sum_so_far-most es, reached-years es lawful)

-- none come behind the latest minute
none-late : (es : List Event) → IsLawful es → (x n : ℕ) → reached (last_event es) ≤ x → minutes_where (λ u. is_in_tour (kind_of es u)) x n ≡ 0
none-late es lawful x n late =
    minutes_where-same (λ u. is_in_tour (kind_of es u)) (λ u. false) x n (λ u low high. asks-late is_in_tour (refl, refl) es lawful u (omega (arith, late, low)))
    ∙ minutes_where-never x n

sum-tail : (es : List Event) → IsLawful es → (t : ℕ) → reached (last_event es) ≤ t
    → minutes_where (λ u. is_in_tour (kind_of es u)) (begun_at (marks es)) (t - begun_at (marks es)) ≡ sum_so_far es
unfolding sum_so_far
sum-tail es lawful t late =
    let q : ℕ → Bool = λ u. is_in_tour (kind_of es u) in
    let start = begun_at (marks es) in
    let latest = reached (last_event es) in
    let begun = start-reached es lawful in
    let long : minutes_where q start (t - start) ≡ minutes_where q start (latest - start + (t - latest)) = ap (minutes_where q start) (omega (arith, begun, late)) in
    omega (arith, long, minutes_where-add q start (latest - start) (t - latest), none-late es lawful (start + (latest - start)) (t - latest) (omega (arith, begun)))

-- the same with one event more, up to a minute behind the latest
between-until : (o : Option Event) (e : Event) (start t : ℕ) → start ≤ reached o → reached o ≤ t → minutes_between is_in_tour o e start (t - start) ≡ more_until o e t
between-until None e start t begun late = refl
between-until (Some p) e start t begun late = go (is_in_tour (between p e))
  where
    go : (b : Bool) → cond b (shared (last_minute p) (first_minute e) start (t - start)) 0 ≡ cond b (min (first_minute e) t - last_minute p) 0
    go true = omega (arith, begun, late)
    go false = refl

pub sum-until : (es : List Event) (e : Event) → IsLawful es → IsNext es e → (t : ℕ) → reached (last_event es) ≤ t
    → minutes_where (λ u. is_in_tour (kind_of (es ++ e ∷ []) u)) (begun_at (marks es)) (t - begun_at (marks es)) ≡ sum_so_far es + more_until (last_event es) e t
sum-until es e lawful next t late =
    let start = begun_at (marks es) in
    omega (
      arith,
      count-push is_in_tour (refl, refl) es e lawful next start (t - start),
      between-until (last_event es) e start t (start-reached es lawful) late,
      sum-tail es lawful t late,
    )

-- the sum of the last tour, one event more
pub more_until-last : (o : Option Event) (e : Event) → first_minute e ≤ last_minute e → more_until o e (last_minute e) ≡ tour_minutes_between o e
more_until-last None e whole = refl
more_until-last (Some p) e whole = go (is_in_tour (between p e))
  where
    go : (b : Bool) → cond b (min (first_minute e) (last_minute e) - last_minute p) 0 ≡ cond b (first_minute e - last_minute p) 0
    go true = omega (arith, whole)
    go false = refl

sum_from : (es : List Event) (e : Event) → IsLawful es → IsNext es e → (b : Bool)
    → minutes_where (λ u. is_in_tour (kind_of (es ++ e ∷ []) u)) (cond b (last_minute e) (begun_at (marks es))) (last_minute e - cond b (last_minute e) (begun_at (marks es)))
    ≡ cond b 0 (sum_so_far es + tour_minutes_between (last_event es) e)
sum_from es e lawful next true =
    ap (minutes_where (λ u. is_in_tour (kind_of (es ++ e ∷ []) u)) (last_minute e)) (omega arith) ∙ minutes_where-none (λ u. is_in_tour (kind_of (es ++ e ∷ []) u)) (last_minute e)
sum_from es e lawful next false =
    sum-until es e lawful next (last_minute e) (omega (arith, follows-reached (last_event es) (stage_of es) e next, next.whole))
    ∙ ap (λ n. sum_so_far es + n) (more_until-last (last_event es) e next.whole)

sum-marks : (es : List Event) (e : Event) → sum_so_far (es ++ e ∷ [])
    ≡ minutes_where (λ u. is_in_tour (kind_of (es ++ e ∷ []) u)) (begun_at (marks (es ++ e ∷ []))) (last_minute e - begun_at (marks (es ++ e ∷ [])))
unfolding sum_so_far
sum-marks es e =
    ap (λ o. minutes_where (λ u. is_in_tour (kind_of (es ++ e ∷ []) u)) (begun_at (marks (es ++ e ∷ []))) (reached o - begun_at (marks (es ++ e ∷ [])))) (last_event-push es e)

pub sum_so_far-push : (es : List Event) (e : Event) → IsLawful es → IsNext es e
    → sum_so_far (es ++ e ∷ []) ≡ cond (begins (stage_of es) e) 0 (sum_so_far es + tour_minutes_between (last_event es) e)
sum_so_far-push es e lawful next =
    sum-marks es e
    ∙ ap (λ start. minutes_where (λ u. is_in_tour (kind_of (es ++ e ∷ []) u)) start (last_minute e - start)) (begun_at-next es e)
    ∙ sum_from es e lawful next (begins (stage_of es) e)

pub sum_so_far-nil : sum_so_far [] ≡ 0
unfolding sum_so_far
sum_so_far-nil = minutes_where-none (λ u. is_in_tour (kind_of [] u)) 0

-- the minutes of a minute's tour before it, one event more
pub tour_minutes-early : (es : List Event) (e : Event) → IsLawful es → IsNext es e → (t : ℕ) → t < reached (last_event es) → tour_minutes (es ++ e ∷ []) t ≡ tour_minutes es t
unfolding tour_minutes
tour_minutes-early es e lawful next t early =
    let order = follows-reached (last_event es) (stage_of es) e next in
    let start = tour_start es t in
    ap (λ x. minutes_where (λ u. is_in_tour (kind_of (es ++ e ∷ []) u)) x (t - x)) (tour_start-early es e t next.whole (omega (arith, early, order)))
    ∙ minutes_where-same (λ u. is_in_tour (kind_of (es ++ e ∷ []) u)) (λ u. is_in_tour (kind_of es u)) start (t - start) (λ u low high. ap is_in_tour (kind_of-stays es e lawful next u (omega (arith, early, low, high))))

pub tour_minutes-middle : (es : List Event) (e : Event) → IsLawful es → IsNext es e → (t : ℕ) → reached (last_event es) ≤ t → t < first_minute e
    → tour_minutes (es ++ e ∷ []) t ≡ sum_so_far es + more_until (last_event es) e t
unfolding tour_minutes
tour_minutes-middle es e lawful next t late early =
    let by = shape-by (last_event es) (marks es) t (shape_of es lawful) late in
    ap (λ x. minutes_where (λ u. is_in_tour (kind_of (es ++ e ∷ []) u)) x (t - x)) (tour_start-early es e t next.whole early ∙ tour_start-late es t by)
    ∙ sum-until es e lawful next t late

-- the starts of tours, one event more
begun : (s : Stage) (e : Event) → map (λ m. m.at) (filter (λ m. m.begins) (marks_of s e)) ≡ (if begins s e then first_minute e ∷ [] else [])
begun s (event.Other span place) = refl
begun s e = go (begins s e)
  where
    go : (b : Bool) → map (λ m. m.at) (filter (λ m. m.begins) (mark_of (last_minute e) (last_leads e) b ∷ [])) ≡ (if b then last_minute e ∷ [] else [])
    go true = refl
    go false = refl

pub starts-push : (es : List Event) (e : Event) → starts (es ++ e ∷ []) ≡ starts es ++ (if begins (stage_of es) e then first_minute e ∷ [] else [])
unfolding starts
starts-push es e =
    ap (λ ms. map (λ m. m.at) (filter (λ m. m.begins) ms)) (marks-push es e)
    ∙ ap (map (λ m. m.at)) (filter-append (λ m. m.begins) (marks es) (marks_of (stage_of es) e))
    ∙ map-append (λ m. m.at) (filter (λ m. m.begins) (marks es)) (filter (λ m. m.begins) (marks_of (stage_of es) e))
    ∙ ap (λ ts. starts es ++ ts) (begun (stage_of es) e)
