-- Indexes among all persons and all boards, in the order in which these came, from 0.
use Rattle.std.specs.Prelude.{ℕ, nat_eq, Option, List, position}
use Rattle.std.specs.Str.{bytes_eq}

-- the index of a person's number, and that of a board's code
abbrev pub index_among : List ℕ → ℕ → Option ℕ
index_among numbers p = position (nat_eq p) numbers

abbrev pub board_index : List (List ℕ) → List ℕ → Option ℕ
board_index codes b = position (bytes_eq b) codes
