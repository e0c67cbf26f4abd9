use Rattle.std.specs.Prelude.{ℕ}

-- a reader, and how many errors it gave
pub record Reading (R : Type 0) : Type 0 where
  pub reader : R
  pub errors : ℕ
