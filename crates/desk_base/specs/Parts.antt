-- The parts of bytes between marks.
use Rattle.std.specs.Prelude.{ℕ, Option, None, Some, ◌==◌, List, []}
use Rattle.std.specs.List.{slice_split}

-- the bytes between the marks
abbrev pub parts_by : ℕ → List ℕ → List (List ℕ)
parts_by mark bytes = slice_split (λ b. b == mark) bytes

-- the parts of what comes after a mark, if there was one
abbrev pub parts_after : ℕ → Option (List ℕ) → List (List ℕ)
parts_after mark None = []
parts_after mark (Some bytes) = parts_by mark bytes
