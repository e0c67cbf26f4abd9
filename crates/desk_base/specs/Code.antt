-- Codes of boards, places and homes.
use Rattle.std.specs.Prelude.{ℕ, ◌≤◌, ◌-◌, ◌++◌, ◌∷◌, [], replicate, Bool, ◌&&◌, ◌||◌, nat_le, List, length, IsTrue}
use Rattle.std.specs.List.{list_all}
use Rattle.std.specs.Int.{w64, from_le_bytes}

-- A to Z, or 0 to 9
abbrev pub is_code_byte : ℕ → Bool
is_code_byte b = (nat_le 65 b && nat_le b 90) || (nat_le 48 b && nat_le b 57)

-- 1 to 6 bytes of A to Z and 0 to 9
pub record IsCode (text : List ℕ) : Type 0 where
  pub some : 1 ≤ length text
  pub most : length text ≤ 6
  pub bytes : IsTrue (list_all is_code_byte text)

-- the text, filled up to seven bytes with zeros
abbrev pub padded_code : List ℕ → List ℕ
padded_code text = text ++ replicate (7 - length text) 0

-- the number of these seven bytes and of the length behind them
abbrev pub code_word : List ℕ → ℕ
code_word text = from_le_bytes w64 (padded_code text ++ length text ∷ [])
