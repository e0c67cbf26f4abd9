-- A search for the first that passes, a step at a time.
use Rattle.std.proofs.Common.{◌≡◌, ℕ, ◌+◌, ◌<◌, Bool, true, false, Some, List, ◌∷◌, length, drop, get_or, refl, sym, ap, ◌∙◌}
use Rattle.std.specs.List.{find}
use Rattle.std.proofs.lemmas.List.{at_drop_more}

-- what stands at a position is the first from there on, or not
find-step : {X : Type 0} (p : X → Bool) (xs : List X) (i : ℕ) (x : X) → i < length xs → x ≡ get_or xs i x
    → find p (drop i xs) ≡ find p (x ∷ drop (i + 1) xs)
find-step p xs i x within is = at_drop_more (find p) xs i x within ∙ ap (λ y. find p (y ∷ drop (i + 1) xs)) (sym is)

pub find-here : {X : Type 0} (p : X → Bool) (xs : List X) (i : ℕ) (x : X) → i < length xs → x ≡ get_or xs i x → p x ≡ true
    → find p (drop i xs) ≡ Some x
find-here p xs i x within is passes = find-step p xs i x within is ∙ rw passes refl

pub find-past : {X : Type 0} (p : X → Bool) (xs : List X) (i : ℕ) (x : X) → i < length xs → x ≡ get_or xs i x → p x ≡ false
    → find p (drop i xs) ≡ find p (drop (i + 1) xs)
find-past p xs i x within is fails = find-step p xs i x within is ∙ rw fails refl
