-- Lists of marks, one mark more at or behind the last.
use Rattle.std.proofs.Common.{◌≡◌, ℕ, ◌-◌, ◌<◌, ◌≤◌, nat_lt, nat_le, Option, None, Some, List, [], ◌∷◌, ◌++◌, reverse, refl, sym, ap, ◌∙◌, arith}
use Rattle.std.specs.Option.{option_or}
use Rattle.std.specs.List.{find}
use Rattle.std.proofs.lemmas.Bool.{lt-ltb, le-ltb, le-leb, lt-leb}
use Rattle.std.proofs.lemmas.List.{reverse-append}
use Rattle.std.proofs.lemmas.List.Folds.{find-append}
use Rattle.duty_events.specs.declared.minute_kind.MinuteKind.{MinuteKind}
use Rattle.duty_events.specs.declared.minute_kind.MinuteKind.TheVariants as minute
use Rattle.duty_events.specs.MinuteKind.{Mark, mark_before, mark_after, counted, unended, kind_between}

-- what a minute counts as by these marks
abbrev pub kind_by : List Mark → ℕ → MinuteKind
kind_by ms t = kind_between (mark_before ms t) (mark_after ms t)

-- none of the marks is behind the minute
abbrev pub AreBy : ℕ → List Mark → Type 0
AreBy t [] = Unit {0}
AreBy t (m ∷ ms) = (m.at ≤ t) × AreBy t ms

pub are_by-later : (t u : ℕ) → t ≤ u → (ms : List Mark) → AreBy t ms → AreBy u ms
are_by-later t u later [] by = tt
are_by-later t u later (m ∷ ms) by = (omega (arith, by.0, later), are_by-later t u later ms by.1)

pub are_by-push : (t : ℕ) (ms : List Mark) (m : Mark) → AreBy t ms → m.at ≤ t → AreBy t (ms ++ m ∷ [])
are_by-push t [] m by here = (here, tt)
are_by-push t (n ∷ ms) m by here = (by.0, are_by-push t ms m by.1 here)

pub are_by-append : (t : ℕ) (ms ns : List Mark) → AreBy t ms → AreBy t ns → AreBy t (ms ++ ns)
are_by-append t [] ns by more = more
are_by-append t (m ∷ ms) ns by more = (by.0, are_by-append t ms ns by.1 more)

mark_after-none : (t : ℕ) (ms : List Mark) → AreBy t ms → mark_after ms t ≡ None
mark_after-none t [] by = refl
mark_after-none t (m ∷ ms) by = rw (le-ltb t m.at by.0) (mark_after-none t ms by.1)

mark_before-push : (ms : List Mark) (m : Mark) (t : ℕ) → mark_before (ms ++ m ∷ []) t ≡ find (λ n. nat_le n.at t) (m ∷ reverse ms)
mark_before-push ms m t = ap (find (λ n. nat_le n.at t)) (reverse-append ms (m ∷ []))

mark_after-push : (ms : List Mark) (m : Mark) (t : ℕ) → mark_after (ms ++ m ∷ []) t ≡ option_or (mark_after ms t) (mark_after (m ∷ []) t)
mark_after-push ms m t = find-append (λ n. nat_lt t n.at) ms (m ∷ [])

-- before the last mark all stays
stays_some : {X : Type 0} (o : Option X) (a : X) (p : Option X) → option_or (option_or o (Some a)) p ≡ option_or o (Some a)
stays_some None a p = refl
stays_some (Some b) a p = refl

mark_after-early : (ms : List Mark) (a : Mark) (t : ℕ) → t < a.at → mark_after (ms ++ a ∷ []) t ≡ option_or (mark_after ms t) (Some a)
mark_after-early ms a t early = mark_after-push ms a t ∙ rw (lt-ltb t a.at early) refl

pub mark_before-early : (ms : List Mark) (m : Mark) (t : ℕ) → t < m.at → mark_before (ms ++ m ∷ []) t ≡ mark_before ms t
mark_before-early ms m t early = mark_before-push ms m t ∙ rw (lt-leb m.at t early) refl

pub kind_by-early : (ms : List Mark) (a m : Mark) (t : ℕ) → a.at ≤ m.at → t < a.at → kind_by ((ms ++ a ∷ []) ++ m ∷ []) t ≡ kind_by (ms ++ a ∷ []) t
kind_by-early ms a m t order early =
    let before = mark_before-early (ms ++ a ∷ []) m t (omega (arith, order, early)) in
    let one = mark_after-early ms a t early in
    let after : mark_after ((ms ++ a ∷ []) ++ m ∷ []) t ≡ mark_after (ms ++ a ∷ []) t =
    mark_after-push (ms ++ a ∷ []) m t ∙ ap (λ o. option_or o (mark_after (m ∷ []) t)) one ∙ stays_some (mark_after ms t) a (mark_after (m ∷ []) t) ∙ sym one in
    ap (λ o. kind_between o (mark_after ((ms ++ a ∷ []) ++ m ∷ []) t)) before ∙ ap (kind_between (mark_before (ms ++ a ∷ []) t)) after

-- between the last mark and one more
pub kind_by-between : (ms : List Mark) (a m : Mark) (t : ℕ) → AreBy t ms → a.at ≤ t → t < m.at → kind_by ((ms ++ a ∷ []) ++ m ∷ []) t ≡ counted a.leads (m.at - a.at) m.leads
kind_by-between ms a m t by from to =
    let before : mark_before ((ms ++ a ∷ []) ++ m ∷ []) t ≡ Some a =
    mark_before-early (ms ++ a ∷ []) m t to ∙ mark_before-push ms a t ∙ rw (le-leb a.at t from) refl in
    let after : mark_after ((ms ++ a ∷ []) ++ m ∷ []) t ≡ Some m =
    mark_after-early (ms ++ a ∷ []) m t to ∙ ap (λ o. option_or o (Some m)) (mark_after-none t (ms ++ a ∷ []) (are_by-push t ms a by from)) in
    ap (λ o. kind_between o (mark_after ((ms ++ a ∷ []) ++ m ∷ []) t)) before ∙ ap (kind_between (Some a)) after

-- before the only mark
pub kind_by-first : (m : Mark) (t : ℕ) → t < m.at → kind_by (m ∷ []) t ≡ minute.Off
kind_by-first m t early = rw (lt-leb m.at t early) refl

-- at and behind the last mark
pub kind_by-late : (ms : List Mark) (m : Mark) (t : ℕ) → AreBy t ms → m.at ≤ t → kind_by (ms ++ m ∷ []) t ≡ unended m.leads
kind_by-late ms m t by from =
    let before : mark_before (ms ++ m ∷ []) t ≡ Some m = mark_before-push ms m t ∙ rw (le-leb m.at t from) refl in
    let after = mark_after-none t (ms ++ m ∷ []) (are_by-push t ms m by from) in
    ap (λ o. kind_between o (mark_after (ms ++ m ∷ []) t)) before ∙ ap (kind_between (Some m)) after
