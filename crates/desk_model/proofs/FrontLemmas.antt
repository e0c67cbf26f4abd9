-- The first entries of a legal history are a legal one.
use Rattle.std.proofs.Common.{◌≡◌, ℕ, zero, suc, List, [], ◌∷◌, length, take, refl, sym, ap, subst, ◌∙◌}
use mathlib.Core.List.{IsPrefix}
use Rattle.std.specs.List.{All}
use Rattle.std.proofs.lemmas.List.{take_at}
use Rattle.std.proofs.lemmas.List.Elements.{All-nil, All-cons, All-head, All-tail}
use Rattle.desk_model.specs.statements.Opening.{OpeningValue}
use Rattle.desk_model.specs.statements.Entry.{EntryValue}
use Rattle.desk_model.specs.histories.History.{History, history_of, opened, with_entry, step_of, steps_from, steps}
use Rattle.desk_model.specs.histories.Legal.{IsLegal}
use Rattle.desk_model.proofs.LegalLemmas.{IsRight}

steps_from-take : (h : History) (many : ℕ) (es : List EntryValue) → All IsRight (steps_from h es) → All IsRight (steps_from h (take many es))
steps_from-take h zero es each = All-nil IsRight
steps_from-take h (suc many) [] each = All-nil IsRight
steps_from-take h (suc many) (e ∷ es) each =
    All-cons IsRight (step_of h e) (steps_from (with_entry h e) (take many es)) (All-head IsRight (step_of h e) (steps_from (with_entry h e) es) each)
    (steps_from-take (with_entry h e) many es (All-tail IsRight (step_of h e) (steps_from (with_entry h e) es) each))

pub legal-take : (h : History) (many : ℕ) → IsLegal h → IsLegal (history_of h.opening (take many h.entries))
unfolding steps
legal-take h many legal = record { opening = legal.opening; each = steps_from-take (opened h.opening) many h.entries legal.each }

pub legal-prefix : (o : OpeningValue) (front whole : List EntryValue) → IsPrefix front whole → IsLegal (history_of o whole) → IsLegal (history_of o front)
legal-prefix o front whole begins legal =
    let is : take (length front) whole ≡ front = ap (take (length front)) (sym begins.1) ∙ take_at front begins.0 (length front) refl in
    subst (λ es. IsLegal (history_of o es)) is (legal-take (history_of o whole) (length front) legal)
