-- Fields behind commas.
use Rattle.std.specs.Prelude.{ℕ, List, [], ◌∷◌, ◌++◌}

-- each field with a comma before it
abbrev pub marked : List (List ℕ) → List ℕ
marked [] = []
marked (field ∷ fields) = 44 ∷ field ++ marked fields
