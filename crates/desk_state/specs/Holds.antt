-- What is kept of holds, beside what a history says of them.
use Rattle.std.specs.Prelude.{◌≡◌, ℕ, ◌+◌, ◌*◌, ◌≤◌, nat_lt, Option, Some, if◌then◌else◌, List, [], ◌∷◌, length, slice_index}
use Rattle.desk_model.specs.declared.limits.TheConstants.{BOARD_LIMIT}
use Rattle.desk_model.specs.histories.History.{History}
use Rattle.desk_model.specs.histories.Register.{persons, boards}
use Rattle.desk_model.specs.offers.Held.{hold_end}
use Rattle.desk_register.specs.Among.{index_among, board_index}
use Rattle.desk_state.specs.declared.holds.Holds.{Holds}

-- until when a table holds the person at an index by the board at an index: it has the ends of one person's holds after those of
-- another's, 64 of each; 0 where it has no such indexes
abbrev pub end_in : List ℕ → ℕ → ℕ → ℕ
end_in table person board = if nat_lt board BOARD_LIMIT then slice_index table (person * BOARD_LIMIT + board) else 0

abbrev pub end_at : Holds → ℕ → ℕ → ℕ
end_at x person board = end_in x.ends.items person board

-- so for a person and a board that may have no index: who has none is held by no board, and nobody by one that has none
abbrev pub end_for : (ℕ → ℕ → ℕ) → Option ℕ → Option ℕ → ℕ
end_for ends (Some person) (Some board) = ends person board
end_for ends person board = 0

-- until then each board holds each person, and nobody is held at an index behind the last person's or by one behind the last board's
pub record AreHolds (ends : ℕ → ℕ → ℕ) (h : History) : Type 0 where
  pub each : (p : ℕ) (b : List ℕ) → end_for ends (index_among (persons h) p) (board_index (boards h) b) ≡ hold_end h (b ∷ []) p
  pub behind : (person board : ℕ) → length (persons h) ≤ person → ends person board ≡ 0
  pub beyond : (person board : ℕ) → length (boards h) ≤ board → ends person board ≡ 0
