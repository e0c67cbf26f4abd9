-- The first of a list, and what a wall took of one entry more.
use Rattle.std.proofs.Common.{◌≡◌, ◌∙◌, ℕ, ◌≤◌, List, [], ◌∷◌, ◌++◌, length, take, drop, sym, ap, subst, arith, length-append, append_assoc, ⊎_elim}
use Rattle.std.proofs.lemmas.List.{take_all, take-append-drop, take-append-le}
use mathlib.Core.List.{IsPrefix}
use Rattle.board_window.specs.Windows.{TakesAtMost}
use Rattle.desk_model.specs.statements.Entry.{EntryValue}
use Rattle.desk_model.specs.statements.Opening.{OpeningValue}
use Rattle.desk_model.specs.histories.History.{History, history_of, with_entry}
use Rattle.desk_model.specs.histories.Legal.{IsLegal}

-- so many of the first are no more than all, and are all where they are as many
pub front-within : {A : Type 0} (front xs : List A) → front ≡ take (length front) xs → length front ≤ length xs
front-within front xs is = let n = length front in omega (arith, ap length is, length-append (take n xs) (drop n xs), ap length (take-append-drop n xs))

front-all : {A : Type 0} (front xs : List A) → front ≡ take (length front) xs → length front ≡ length xs → front ≡ xs
front-all front xs is long = is ∙ take_all (length front) xs (omega (arith, long))

-- what begins them begins all
pub front-begins : {A : Type 0} (some front xs : List A) → IsPrefix some front → front ≡ take (length front) xs → IsPrefix some xs
front-begins some front xs begins is =
    let n = length front in
    (begins.0 ++ drop n xs, sym (append_assoc some begins.0 (drop n xs)) ∙ (ap (λ ys. ys ++ drop n xs) (begins.1 ∙ is) ∙ take-append-drop n xs))

-- a wall that lacks no entry of a history is given its next one
pub legal-next : (o : OpeningValue) (h after : History) (added : List EntryValue) (e : EntryValue) (place : ℕ) → o ≡ h.opening → added ≡ take (length added) h.entries → place ≡ length h.entries
    → after ≡ with_entry h e → IsLegal after → length added ≡ place → IsLegal (history_of o (added ++ e ∷ []))
legal-next o h after added e place opening front many next legal long =
    let all = front-all added h.entries front (long ∙ many) in
    subst IsLegal (next ∙ (ap (λ es. history_of h.opening (es ++ e ∷ [])) (sym all) ∙ ap (λ x. history_of x (added ++ e ∷ [])) (sym opening))) legal

-- and whatever it takes begins the longer history
pub front-next : (place : ℕ) (e : EntryValue) (before after entries : List EntryValue) → before ≡ take (length before) entries → place ≡ length entries → TakesAtMost place e before after
    → after ≡ take (length after) (entries ++ e ∷ [])
front-next place e before after entries front many takes =
    ⊎_elim
    (λ (same : after ≡ before). subst (λ (xs : List EntryValue). xs ≡ take (length xs) (entries ++ e ∷ [])) (sym same)
    (front ∙ sym (take-append-le (length before) entries (e ∷ []) (front-within before entries front))))
    (λ (t : (length before ≡ place) × (after ≡ before ++ e ∷ [])).
    let all = front-all before entries front (t.0 ∙ many) in
    subst (λ (xs : List EntryValue). xs ≡ take (length xs) (entries ++ e ∷ [])) (sym (t.1 ∙ ap (λ xs. xs ++ e ∷ []) all)) (sym (take_all (length (entries ++ e ∷ [])) (entries ++ e ∷ []) (omega arith))))
    takes
