use Rattle.std.specs.Prelude.{Bool}

-- a line, and whether it was ended
pub record Until (L : Type 0) : Type 0 where
  pub line : L
  pub over : Bool
