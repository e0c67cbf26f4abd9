use Rattle.std.specs.Prelude.{ℕ}

-- a writer, and how many errors it gave
pub record Writing (W : Type 0) : Type 0 where
  pub writer : W
  pub errors : ℕ
