use Rattle.std.specs.Prelude.{◌≡◌, ℕ, ◌≤◌, List, length, take, ⊤, None, Some}
use Rattle.std.specs.declared.option.Option.{Option}

-- an open file, and how many faults it had
pub record Opened (F : Type 0) : Type 0 where
  pub file : F
  pub faults : ℕ

-- of the bytes that a file holds, where it tells them, it has so many, and holds just these from now on
abbrev pub CutsTo : Option (List ℕ) → Option (List ℕ) → ℕ → Type 0
CutsTo None new len = ⊤
CutsTo (Some bytes) None len = ⊥
CutsTo (Some bytes) (Some front) len = (len ≤ length bytes) × (front ≡ take len bytes)
