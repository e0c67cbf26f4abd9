use Rattle.std.specs.Prelude.{ℕ, ◌<◌, ◌≤◌}

-- so many bytes of a piece were moved: no more than it has, and some where it has any
pub record FitsPiece (count len : ℕ) : Type 0 where
  pub most : count ≤ len
  pub least : 0 < len → 0 < count
