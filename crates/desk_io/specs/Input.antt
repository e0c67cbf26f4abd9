use Rattle.std.specs.Prelude.{◌≡◌, ℕ, ◌+◌, ◌<◌, ◌≤◌, List, [], length, ⊤, None, Some}
use Rattle.std.specs.declared.option.Option.{Option}
use Rattle.std.specs.Io.KnownBytes.{Consumes}

-- a source that told what was left gave just these bytes, and has none left
abbrev pub TookAll : Option (List ℕ) → Option (List ℕ) → List ℕ → Type 0
TookAll None new bytes = ⊤
TookAll (Some left) new bytes = (bytes ≡ left) × (new ≡ Some [])

-- a source gave one byte more than the limit
pub record TookMore (old new : Option (List ℕ)) (limit : ℕ) : Type 0 where
  pub bytes : List ℕ
  pub taken : Consumes old new bytes
  pub more : limit < length bytes
  pub most : length bytes ≤ limit + 1

-- a source gave so many bytes at most
pub record TookFront (old new : Option (List ℕ)) (most : ℕ) : Type 0 where
  pub bytes : List ℕ
  pub taken : Consumes old new bytes
  pub within : length bytes ≤ most
