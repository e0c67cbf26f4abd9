-- The fields of a record at their indexes, and the first of them.
use Rattle.std.proofs.Common.{◌≡◌, ◌∙◌, ◌≤◌, ◌+◌, ℕ, zero, suc, List, [], ◌∷◌, ◌++◌, length, take, Some, None, refl, sym, ap, arith, rules}
use Rattle.std.proofs.Math.Seq.{take-append_seam}
use Rattle.csv.specs.Records.{field_at}

-- a field at an index stands behind those before it
pub field-there : (fields : List (List ℕ)) (index : ℕ) (field : List ℕ) → Some field ≡ field_at fields index
    → take (index + 1) fields ≡ take index fields ++ field ∷ []
unfolding field_at
field-there [] index field there = let there = there in cc
field-there (first ∷ rest) zero field there = let same : field ≡ first = search rules in rw same refl
field-there (first ∷ rest) (suc index) field there =
    let next : suc index + 1 ≡ suc (index + 1) = omega arith in
    rw next (ap (λ fields. first ∷ fields) (field-there rest index field there))

-- and where none stands, these are all fields
pub field-none : (fields : List (List ℕ)) (index most : ℕ) → index ≤ most → None ≡ field_at fields index → take index fields ≡ take most fields
unfolding field_at
field-none [] zero zero le none = refl
field-none [] zero (suc most) le none = refl
field-none [] (suc index) zero le none = refl
field-none [] (suc index) (suc most) le none = refl
field-none (first ∷ rest) zero most le none = let none = none in cc
field-none (first ∷ rest) (suc index) zero le none = absurd (omega (arith, le))
field-none (first ∷ rest) (suc index) (suc most) le none = ap (λ fields. first ∷ fields) (field-none rest index most (omega (arith, le)) none)

-- the front of a record's fields, when it has 12
pub take-front : (front rest fields : List (List ℕ)) → front ++ rest ≡ fields → length front ≡ 12 → front ≡ take 12 fields
take-front front rest fields parts full = sym (take-append_seam front rest) ∙ ap (λ n. take n (front ++ rest)) full ∙ ap (λ l. take 12 l) parts
