-- Whole lines of a text.
use Rattle.std.specs.Prelude.{◌≡◌, ◌⊎◌, ◌==◌, ℕ, false, List, [], ◌∷◌, ◌++◌}
use Rattle.std.specs.List.{All}

-- it is empty, or ends with a line feed
abbrev pub IsFed : List ℕ → Type 0
IsFed text = (text ≡ []) ⊎ ((front : List ℕ) × (text ≡ front ++ 10 ∷ []))

-- the text up to its last line feed: behind it is no other
pub record IsWhole (text front : List ℕ) : Type 0 where
  pub fed : IsFed front
  pub rest : List ℕ
  pub parts : text ≡ front ++ rest
  pub cut : All (λ byte. (byte == 10) ≡ false) rest
