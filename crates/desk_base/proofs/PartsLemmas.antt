-- The first part of a list that is split, and the parts of what was joined.
use Rattle.std.proofs.Common.{◌≡◌, ℕ, ◌+◌, inl, inr, Bool, false, cond, ltb, ◌==◌, Some, None, List, [], ◌∷◌, length, take, drop, refl, ap, ◌∙◌, arith}
use Rattle.std.proofs.lemmas.Bool.{cases_lt, lt-ltb, le-ltb, cond-true, cond-false, eq-eqb}
use Rattle.std.proofs.lemmas.List.Splits.{slice_split_first, slice_split_none, slice_split_at}
use Rattle.std.proofs.lemmas.List.Sums.{fails_before_first}
use Rattle.std.specs.Bool.{⊤}
use Rattle.std.specs.List.{slice_split, position_or_len, join_with_byte, All}
use Rattle.desk_base.specs.Parts.{parts_by}

-- where the first element that passes stands at this index, the first part ends there
pub slice_split-found : {X : Type 0} (p : X → Bool) (xs : List X) (d : X) (at : ℕ) → Some at ≡ cond (ltb (position_or_len p xs) (length xs)) (Some (position_or_len p xs)) None → slice_split p xs ≡ take at xs ∷ slice_split p (drop (at + 1) xs)
slice_split-found p xs d at e =
    elim (cases_lt (position_or_len p xs) (length xs)) [
      | inl lt ↦ let some = e ∙ cond-true _ (Some (position_or_len p xs)) None (lt-ltb _ _ lt) in
          let here : at ≡ position_or_len p xs = cc in
          rw here (slice_split_first p xs d lt)
      | inr ge ↦ let none = e ∙ cond-false _ (Some (position_or_len p xs)) None (le-ltb _ _ ge) in cc
    ]

-- and where none passes there is one part
pub slice_split-absent : {X : Type 0} (p : X → Bool) (xs : List X) → None ≡ cond (ltb (position_or_len p xs) (length xs)) (Some (position_or_len p xs)) None → slice_split p xs ≡ xs ∷ []
slice_split-absent p xs e =
    elim (cases_lt (position_or_len p xs) (length xs)) [
      | inl lt ↦ let some = e ∙ cond-true _ (Some (position_or_len p xs)) None (lt-ltb _ _ lt) in cc
      | inr ge ↦ slice_split_none p xs (λ k d h. fails_before_first p xs k d (omega arith))
    ]

-- no part has the mark
abbrev pub AreUnmarked : ℕ → List (List ℕ) → Type 0
AreUnmarked mark [] = ⊤
AreUnmarked mark (part ∷ parts) = All (λ b. (b == mark) ≡ false) part × AreUnmarked mark parts

-- what was joined by a mark that no part has is split into those parts
pub parts_by-join : (mark : ℕ) (part : List ℕ) (parts : List (List ℕ)) → AreUnmarked mark (part ∷ parts) → parts_by mark (join_with_byte mark (part ∷ parts)) ≡ part ∷ parts
parts_by-join mark part [] free = slice_split_none (λ b. b == mark) part free.0
parts_by-join mark part (next ∷ parts) free =
    slice_split_at (λ b. b == mark) part mark (join_with_byte mark (next ∷ parts)) free.0 (eq-eqb mark mark refl)
    ∙ ap (λ ps. part ∷ ps) (parts_by-join mark next parts free.1)
