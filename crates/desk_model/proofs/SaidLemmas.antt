-- What entries and steps say where one more has come, and what an entry says that was accepted.
use Rattle.std.proofs.Common.{◌≡◌, Bool, true, false, cond, ◌||◌, Option, None, Some, is_some, unwrap_or, List, [], ◌∷◌, ◌++◌, refl, sym, ap, ◌∙◌, append-nil, append_assoc}
use Rattle.std.specs.Option.{option_or}
use Rattle.std.specs.List.{cons_option, filter_map}
use Rattle.std.proofs.lemmas.List.Elements.{filter_map-append}
use Rattle.desk_model.specs.declared.command.Cmd.{Cmd}
use Rattle.desk_model.specs.statements.Entry.{EntryValue}
use Rattle.desk_model.specs.histories.History.{History, history_of, with_entry, step_of, steps_from, steps, is_done, said, first_of, last_of}

pub or_none : {X : Type 0} (o : Option X) → option_or o None ≡ o
or_none None = refl
or_none (Some x) = refl

or_assoc : {X : Type 0} (one two three : Option X) → option_or one (option_or two three) ≡ option_or (option_or one two) three
or_assoc None two three = refl
or_assoc (Some x) two three = refl

pub first_of-snoc : {E : Type 0} {X : Type 0} (f : E → Option X) (es : List E) (e : E) → first_of f (es ++ e ∷ []) ≡ option_or (first_of f es) (f e)
first_of-snoc f [] e = or_none (f e)
first_of-snoc f (x ∷ es) e = ap (option_or (f x)) (first_of-snoc f es e) ∙ or_assoc (f x) (first_of f es) (f e)

pub last_of-snoc : {E : Type 0} {X : Type 0} (f : E → Option X) (es : List E) (e : E) → last_of f (es ++ e ∷ []) ≡ option_or (f e) (last_of f es)
last_of-snoc f [] e = sym (or_none (f e))
last_of-snoc f (x ∷ es) e = ap (λ last. option_or last (f x)) (last_of-snoc f es e) ∙ sym (or_assoc (f e) (last_of f es) (f x))

-- what the last one says, or else a value
pub last_of-or : {E : Type 0} {X : Type 0} (f : E → Option X) (es : List E) (e : E) (x : X) → unwrap_or (last_of f (es ++ e ∷ [])) x ≡ unwrap_or (f e) (unwrap_or (last_of f es) x)
last_of-or f es e x = ap (λ o. unwrap_or o x) (last_of-snoc f es e) ∙ go (f e)
  where
    go : (this : Option _) → unwrap_or (option_or this (last_of f es)) x ≡ unwrap_or this (unwrap_or (last_of f es) x)
    go None = refl
    go (Some y) = refl

-- whether any says something
pub is_some-snoc : {E : Type 0} {X : Type 0} (f : E → Option X) (es : List E) (e : E) → is_some (first_of f (es ++ e ∷ [])) ≡ (is_some (first_of f es) || is_some (f e))
is_some-snoc f es e = ap is_some (first_of-snoc f es e) ∙ go (first_of f es)
  where
    go : (so_far : Option _) → is_some (option_or so_far (f e)) ≡ (is_some so_far || is_some (f e))
    go None = refl
    go (Some y) = refl

pub filter_map-snoc : {E : Type 0} {X : Type 0} (f : E → Option X) (es : List E) (e : E) → filter_map f (es ++ e ∷ []) ≡ filter_map f es ++ cons_option (f e) []
filter_map-snoc f es e = filter_map-append f es (e ∷ [])

-- one of which f says nothing
pub first_of-silent : {E : Type 0} {X : Type 0} (f : E → Option X) (es : List E) (e : E) → f e ≡ None → first_of f (es ++ e ∷ []) ≡ first_of f es
first_of-silent f es e none = first_of-snoc f es e ∙ ap (option_or (first_of f es)) none ∙ or_none (first_of f es)

pub last_of-silent : {E : Type 0} {X : Type 0} (f : E → Option X) (es : List E) (e : E) → f e ≡ None → last_of f (es ++ e ∷ []) ≡ last_of f es
last_of-silent f es e none = last_of-snoc f es e ∙ ap (λ o. option_or o (last_of f es)) none

pub filter_map-silent : {E : Type 0} {X : Type 0} (f : E → Option X) (es : List E) (e : E) → f e ≡ None → filter_map f (es ++ e ∷ []) ≡ filter_map f es
filter_map-silent f es e none = filter_map-snoc f es e ∙ ap (λ o. filter_map f es ++ cons_option o []) none ∙ append-nil (filter_map f es)

-- one of which f says something
pub last_of-tells : {E : Type 0} {X : Type 0} (f : E → Option X) (es : List E) (e : E) (x : X) → f e ≡ Some x → last_of f (es ++ e ∷ []) ≡ Some x
last_of-tells f es e x some = last_of-snoc f es e ∙ ap (λ o. option_or o (last_of f es)) some

-- ---- the steps of a history that has one entry more

steps_from-snoc : (h : History) (es : List EntryValue) (e : EntryValue)
    → steps_from h (es ++ e ∷ []) ≡ steps_from h es ++ step_of (history_of h.opening (h.entries ++ es)) e ∷ []
steps_from-snoc h [] e = ap (λ all. step_of (history_of h.opening all) e ∷ []) (sym (append-nil h.entries))
steps_from-snoc h (x ∷ es) e =
    ap (λ rest. step_of h x ∷ rest)
    (steps_from-snoc (with_entry h x) es e
    ∙ ap (λ all. steps_from (with_entry h x) es ++ step_of (history_of h.opening all) e ∷ []) (append_assoc h.entries (x ∷ []) es))

pub steps-snoc : (h : History) (e : EntryValue) → steps (with_entry h e) ≡ steps h ++ step_of h e ∷ []
unfolding steps
steps-snoc h e = steps_from-snoc (history_of h.opening []) h.entries e

-- ---- what is said

-- who says something was accepted
pub said-some : {X : Type 0} (f : Cmd → Option X) (e : EntryValue) (x : X) → said f e ≡ Some x → (is_done e.reply ≡ true) × (f e.stated.cmd ≡ Some x)
said-some f e x is = go (is_done e.reply) refl is
  where
    go : (done : Bool) → is_done e.reply ≡ done → cond done (f e.stated.cmd) None ≡ Some x → (is_done e.reply ≡ true) × (f e.stated.cmd ≡ Some x)
    go true done is = (done, is)
    go false done is = cc
