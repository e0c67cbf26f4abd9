-- A board as contracts see it, and what it keeps.
use Rattle.std.specs.Prelude.{◌≡◌, ℕ, ◌≤◌, Bool, true, Option, List, length}
use Rattle.slot_tree.specs.declared.limits.TheConstants.{SLOT_LIMIT}
use Rattle.slot_tree.specs.declared.slot.Slot.{Slot}
use Rattle.slot_tree.specs.Slots.{filled}
use Rattle.pool_board.specs.Members.{persons, are_distinct}

-- its place, whether it is an extra board, and its members from the first on
pub record BoardValue : Type 0 where
  pub place : List ℕ
  pub extra : Bool
  pub members : List Slot

abbrev pub board_of : List ℕ → Bool → List Slot → BoardValue
board_of place extra members = record { place = place; extra = extra; members = members }

-- of the same place and sort
abbrev pub IsSameSort : BoardValue → BoardValue → Type 0
IsSameSort old new = (new.place ≡ old.place) × (new.extra ≡ old.extra)

-- the filled slots of a tree are its members: so many of them, at most 500, and nobody twice
pub record IsBoard (listed : ℕ) (slots : List (Option Slot)) : Type 0 where
  pub long : length slots ≡ SLOT_LIMIT
  pub count : listed ≡ length (filled slots)
  pub most : listed ≤ 500
  pub distinct : are_distinct (persons (filled slots)) ≡ true
