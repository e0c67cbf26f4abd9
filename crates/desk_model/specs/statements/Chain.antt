-- Chains of boards.
use Rattle.std.specs.Prelude.{◌≢◌, ℕ, ◌≤◌, List, length}
use Rattle.std.specs.List.{All, AllPairs, join_with_byte}
use Rattle.desk_base.specs.Code.{IsCode}

-- 1 to 4 codes of boards, no two alike
pub record IsChain (boards : List (List ℕ)) : Type 0 where
  pub some : 1 ≤ length boards
  pub most : length boards ≤ 4
  pub codes : All IsCode boards
  pub distinct : AllPairs (λ a b. a ≢ b) boards

-- the boards' codes in their order, joined by `+`
abbrev pub chain_text : List (List ℕ) → List ℕ
chain_text boards = join_with_byte 43 boards
