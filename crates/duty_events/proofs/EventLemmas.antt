-- What one event more makes of the marks of a list and of what its minutes count as.
use Rattle.std.proofs.Common.{◌≡◌, ℕ, ◌-◌, ◌<◌, ◌≤◌, Bool, true, false, nat_lt, if◌then◌else◌, Option, None, Some, Result, IsOk, List, [], ◌∷◌, ◌++◌, fold, refl, sym, subst, ap, ◌∙◌, arith, append_assoc}
use Rattle.desk_base.specs.declared.minute.TheConstants.{YEARS_END}
use Rattle.std.specs.Option.{option_map}
use Rattle.std.proofs.lemmas.Bool.{false≢true, ltb-false}
use Rattle.std.proofs.lemmas.List.{append-nil}
use Rattle.duty_events.specs.declared.event.Event.{Event}
use Rattle.duty_events.specs.declared.event.Event.TheVariants as event
use Rattle.duty_events.specs.declared.event_fault.EventFault.{EventFault}
use Rattle.duty_events.specs.declared.event_fault.EventFault.TheVariants as fault
use Rattle.duty_events.specs.declared.stage.Stage.{Stage}
use Rattle.duty_events.specs.declared.stage.Stage.TheVariants as stage
use Rattle.duty_events.specs.declared.minute_kind.MinuteKind.TheVariants as minute
use Rattle.duty_events.specs.Allowed.{first_minute, last_minute, refuse, follow}
use Rattle.duty_events.specs.Lists.{Follows, IsNext, IsLawful, stage_after, stage_of, last_event, reached}
use Rattle.duty_events.specs.MinuteKind.{Mark, mark_of, ToOther, ToOff, marks_of, marks_from, marks, counted, unended, kind_of, first_leads, last_leads, begins}
use Rattle.duty_events.specs.Between.{between, kind_until, kind_behind}
use Rattle.duty_events.proofs.MarkLemmas.{kind_by, AreBy, kind_by-early, kind_by-between, kind_by-first, kind_by-late, are_by-push, are_by-later, are_by-append}
use Rattle.duty_events.proofs.ListLemmas.{last_event-push, lawful-induction}

-- an event that may follow doesn't begin before the latest minute
not_behind : (o : Option Stage) (s : Stage) (e : Event) (last : ℕ) → IsOk (follow o s e (Some last)) → last ≤ first_minute e
not_behind None s e last ok = absurd (false≢true ok)
not_behind (Some next) s e last ok = go _ (nat_lt (first_minute e) last) refl ok
  where
    go : (rest : Result Stage EventFault) (b : Bool) → nat_lt (first_minute e) last ≡ b → IsOk (refuse (if b then Some (fault.Behind last) else None) rest) → last ≤ first_minute e
    go rest true is ok = absurd (false≢true ok)
    go rest false is ok = ltb-false (first_minute e) last is

pub follows-order : (s : Stage) (last : ℕ) (e : Event) → Follows s (Some last) e → last ≤ first_minute e
follows-order s last e follows = not_behind _ s e last follows.allowed

-- the marks of one event more stand behind the others
marks_from-push : (s : Stage) (es : List Event) (e : Event) → marks_from s (es ++ e ∷ []) ≡ marks_from s es ++ marks_of (fold stage_after s es) e
marks_from-push s [] e = append-nil (marks_of s e)
marks_from-push s (x ∷ es) e =
    ap (λ ms. marks_of s x ++ ms) (marks_from-push (stage_after s x) es e) ∙ sym (append_assoc (marks_of s x) (marks_from (stage_after s x) es) (marks_of (fold stage_after (stage_after s x) es) e))

pub marks-push : (es : List Event) (e : Event) → marks (es ++ e ∷ []) ≡ marks es ++ marks_of (stage_of es) e
marks-push es e = marks_from-push stage.Off es e

-- an event's last mark, and the one before it that other service has
abbrev pub last_mark : Stage → Event → Mark
last_mark s e = mark_of (last_minute e) (last_leads e) (begins s e)

abbrev pub front : Event → List Mark
front (event.Other span place) = mark_of span.from ToOther false ∷ []
front e = []

marks_of-front : (s : Stage) (e : Event) → marks_of s e ≡ front e ++ last_mark s e ∷ []
marks_of-front s (event.Other span place) = refl
marks_of-front s e = refl

front_by : (e : Event) → first_minute e ≤ last_minute e → AreBy (last_minute e) (front e)
front_by (event.Other span place) whole = (whole, tt)
front_by e whole = tt

-- what the minutes count as where an event's marks are added
kinds-early : (ms : List Mark) (a : Mark) (s : Stage) (e : Event) (t : ℕ) → a.at ≤ first_minute e → first_minute e ≤ last_minute e → t < a.at
    → kind_by ((ms ++ a ∷ []) ++ marks_of s e) t ≡ kind_by (ms ++ a ∷ []) t
kinds-early ms a s (event.Other span place) t order whole early =
    let from = mark_of span.from ToOther false in
    let to = mark_of span.to ToOff false in
    ap (λ ns. kind_by ns t) (sym (append_assoc (ms ++ a ∷ []) (from ∷ []) (to ∷ [])))
    ∙ kind_by-early (ms ++ a ∷ []) from to t whole (omega (arith, order, early))
    ∙ kind_by-early ms a from t order early
kinds-early ms a s e t order whole early = kind_by-early ms a (last_mark s e) t order early

kinds-between : (ms : List Mark) (a : Mark) (s : Stage) (e : Event) (t : ℕ) → AreBy t ms → first_minute e ≤ last_minute e → a.at ≤ t → t < first_minute e
    → kind_by ((ms ++ a ∷ []) ++ marks_of s e) t ≡ counted a.leads (first_minute e - a.at) (first_leads e)
kinds-between ms a s (event.Other span place) t by whole from to =
    let one = mark_of span.from ToOther false in
    let two = mark_of span.to ToOff false in
    ap (λ ns. kind_by ns t) (sym (append_assoc (ms ++ a ∷ []) (one ∷ []) (two ∷ [])))
    ∙ kind_by-early (ms ++ a ∷ []) one two t whole to
    ∙ kind_by-between ms a one t by from to
kinds-between ms a s e t by whole from to = kind_by-between ms a (last_mark s e) t by from to

kinds-first : (s : Stage) (e : Event) (t : ℕ) → first_minute e ≤ last_minute e → t < first_minute e → kind_by (marks_of s e) t ≡ minute.Off
kinds-first s (event.Other span place) t whole early =
    let one = mark_of span.from ToOther false in
    let two = mark_of span.to ToOff false in
    kind_by-early [] one two t whole early ∙ kind_by-first one t early
kinds-first s e t whole early = kind_by-first (last_mark s e) t early

kinds-within : (ms : List Mark) (s : Stage) (e : Event) (t : ℕ) → AreBy t ms → first_minute e ≤ t → t < last_minute e → kind_by (ms ++ marks_of s e) t ≡ minute.Other
kinds-within ms s (event.Other span place) t by from to =
    let one = mark_of span.from ToOther false in
    let two = mark_of span.to ToOff false in
    ap (λ ns. kind_by ns t) (sym (append_assoc ms (one ∷ []) (two ∷ []))) ∙ kind_by-between ms one two t by from to
kinds-within ms s e t by from to = absurd (omega (arith, from, to))

kinds-late : (ms : List Mark) (s : Stage) (e : Event) (t : ℕ) → AreBy t ms → first_minute e ≤ last_minute e → last_minute e ≤ t
    → kind_by (ms ++ marks_of s e) t ≡ unended (last_leads e)
kinds-late ms s e t by whole late =
    ap (λ ns. kind_by (ms ++ ns) t) (marks_of-front s e)
    ∙ ap (λ ns. kind_by ns t) (sym (append_assoc ms (front e) (last_mark s e ∷ [])))
    ∙ kind_by-late (ms ++ front e) (last_mark s e) t (are_by-append t ms (front e) by (are_by-later (last_minute e) t late (front e) (front_by e whole))) late

-- the marks of a lawful list end with its last event's
pub record IsLast (p : Event) (ms : List Mark) : Type 0 where
  pub earlier : List Mark
  pub from : Stage
  pub is : ms ≡ earlier ++ last_mark from p ∷ []
  pub by : AreBy (last_minute p) earlier

abbrev pub Shape : Option Event → List Mark → Type 0
Shape None ms = ms ≡ []
Shape (Some p) ms = IsLast p ms

pub follows-reached : (o : Option Event) (s : Stage) (e : Event) → Follows s (option_map last_minute o) e → reached o ≤ first_minute e
follows-reached None s e follows = omega arith
follows-reached (Some p) s e follows = follows-order s (last_minute p) e follows

pub shape-by : (o : Option Event) (ms : List Mark) (t : ℕ) → Shape o ms → reached o ≤ t → AreBy t ms
shape-by None ms t shape late = subst (AreBy t) (sym shape) tt
shape-by (Some p) ms t shape late =
    subst (AreBy t) (sym shape.is) (are_by-push t shape.earlier (last_mark shape.from p) (are_by-later (last_minute p) t late shape.earlier shape.by) late)

shape-push : (es : List Event) (e : Event) → Shape (last_event es) (marks es) → IsNext es e → IsLast e (marks (es ++ e ∷ []))
shape-push es e shape next =
    let order = follows-reached (last_event es) (stage_of es) e next in
    record {
      earlier = marks es ++ front e;
      from = stage_of es;
      is = marks-push es e ∙ ap (λ ms. marks es ++ ms) (marks_of-front (stage_of es) e) ∙ sym (append_assoc (marks es) (front e) (last_mark (stage_of es) e ∷ []));
      by = are_by-append (last_minute e) (marks es) (front e) (shape-by (last_event es) (marks es) (last_minute e) shape (omega (arith, order, next.whole))) (front_by e next.whole);
    }

pub shape_of : (es : List Event) → IsLawful es → Shape (last_event es) (marks es)
shape_of es lawful =
    lawful-induction (λ xs. Shape (last_event xs) (marks xs)) refl
    (λ old e before next shape. subst (λ o. Shape o (marks (old ++ e ∷ []))) (sym (last_event-push old e)) (shape-push old e shape next))
    es lawful

-- the minutes of a list with one event more
stays : (o : Option Event) (ms : List Mark) (s : Stage) (e : Event) (t : ℕ) → Shape o ms → reached o ≤ first_minute e → first_minute e ≤ last_minute e → t < reached o
    → kind_by (ms ++ marks_of s e) t ≡ kind_by ms t
stays None ms s e t shape order whole early = absurd (omega (arith, early))
stays (Some p) ms s e t shape order whole early = rw shape.is (kinds-early shape.earlier (last_mark shape.from p) s e t order whole early)

kind_of-push : (es : List Event) (e : Event) (t : ℕ) → kind_of (es ++ e ∷ []) t ≡ kind_by (marks es ++ marks_of (stage_of es) e) t
unfolding kind_of
kind_of-push es e t = ap (λ ms. kind_by ms t) (marks-push es e)

-- a minute before the list's latest stays what it is
pub kind_of-stays : (es : List Event) (e : Event) → IsLawful es → IsNext es e → (t : ℕ) → t < reached (last_event es) → kind_of (es ++ e ∷ []) t ≡ kind_of es t
unfolding kind_of
kind_of-stays es e lawful next t early =
    kind_of-push es e t ∙ stays (last_event es) (marks es) (stage_of es) e t (shape_of es lawful) (follows-reached (last_event es) (stage_of es) e next) next.whole early

-- those between the list's last event and one more are what the two make of them
kind_of-between : (es : List Event) (p e : Event) → IsLawful es → IsNext es e → last_event es ≡ Some p → (t : ℕ) → last_minute p ≤ t → t < first_minute e
    → kind_of (es ++ e ∷ []) t ≡ between p e
kind_of-between es p e lawful next last t from to =
    let shape : IsLast p (marks es) = subst (λ o. Shape o (marks es)) last (shape_of es lawful) in
    kind_of-push es e t
    ∙ ap (λ ms. kind_by (ms ++ marks_of (stage_of es) e) t) shape.is
    ∙ kinds-between shape.earlier (last_mark shape.from p) (stage_of es) e t (are_by-later (last_minute p) t from shape.earlier shape.by) next.whole from to

-- those before the first event are off
kind_of-first : (es : List Event) (e : Event) → IsLawful es → IsNext es e → last_event es ≡ None → (t : ℕ) → t < first_minute e
    → kind_of (es ++ e ∷ []) t ≡ minute.Off
kind_of-first es e lawful next none t early =
    let empty : marks es ≡ [] = subst (λ o. Shape o (marks es)) none (shape_of es lawful) in
    kind_of-push es e t ∙ ap (λ ms. kind_by (ms ++ marks_of (stage_of es) e) t) empty ∙ kinds-first (stage_of es) e t next.whole early

-- the event's own are other service
pub kind_of-within : (es : List Event) (e : Event) → IsLawful es → IsNext es e → (t : ℕ) → first_minute e ≤ t → t < last_minute e
    → kind_of (es ++ e ∷ []) t ≡ minute.Other
kind_of-within es e lawful next t from to =
    let order = follows-reached (last_event es) (stage_of es) e next in
    kind_of-push es e t ∙ kinds-within (marks es) (stage_of es) e t (shape-by (last_event es) (marks es) t (shape_of es lawful) (omega (arith, order, from))) from to

-- those behind it are not known yet, or off
pub kind_of-late : (es : List Event) (e : Event) → IsLawful es → IsNext es e → (t : ℕ) → last_minute e ≤ t → kind_of (es ++ e ∷ []) t ≡ unended (last_leads e)
kind_of-late es e lawful next t late =
    let order = follows-reached (last_event es) (stage_of es) e next in
    let by = shape-by (last_event es) (marks es) t (shape_of es lawful) (omega (arith, order, next.whole, late)) in
    kind_of-push es e t ∙ kinds-late (marks es) (stage_of es) e t by next.whole late

-- the same of whatever event comes before
pub kind_of-until : (es : List Event) (e : Event) → IsLawful es → IsNext es e → (t : ℕ) → reached (last_event es) ≤ t → t < first_minute e
    → kind_of (es ++ e ∷ []) t ≡ kind_until (last_event es) e
kind_of-until es e lawful next t from to = go (last_event es) refl from
  where
    go : (o : Option Event) → last_event es ≡ o → reached o ≤ t → kind_of (es ++ e ∷ []) t ≡ kind_until o e
    go None last from = kind_of-first es e lawful next last t to
    go (Some p) last from = kind_of-between es p e lawful next last t from to

-- the minutes of a list from its latest on
pub kind_of-behind : (es : List Event) → IsLawful es → (t : ℕ) → reached (last_event es) ≤ t → kind_of es t ≡ kind_behind (last_event es)
unfolding kind_of
kind_of-behind es lawful t late = go (last_event es) (marks es) (shape_of es lawful) late
  where
    go : (o : Option Event) (ms : List Mark) → Shape o ms → reached o ≤ t → kind_by ms t ≡ kind_behind o
    go None ms shape late = ap (λ ns. kind_by ns t) shape
    go (Some p) ms shape late =
        ap (λ ns. kind_by ns t) shape.is ∙ kind_by-late shape.earlier (last_mark shape.from p) t (are_by-later (last_minute p) t late shape.earlier shape.by) late

-- the latest minute lies before the year 2100
pub reached-years : (es : List Event) → IsLawful es → reached (last_event es) < YEARS_END
reached-years es lawful =
    lawful-induction (λ xs. reached (last_event xs) < YEARS_END) (omega arith) (λ old e before next was. omega (arith, ap reached (last_event-push old e), next.last_in)) es lawful
