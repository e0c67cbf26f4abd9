-- Lines that ask for a look at a board.
use Rattle.std.specs.Prelude.{◌≡◌, ℕ, ◌≤◌, List, [], ◌∷◌, codes, decimal}
use Rattle.desk_model.specs.declared.limits.TheConstants.{POSITION_LIMIT}
use Rattle.desk_base.specs.Code.{IsCode}
use Rattle.record_rows.specs.Rows.{records_of}

-- the fields of a look: who stands at this position of the board is asked
abbrev pub look_fields : List ℕ → ℕ → List (List ℕ)
look_fields board position = codes "look" ∷ board ∷ decimal position ∷ []

-- the fields are those of a look at position 1 to 9,999 of a board
pub record IsLookRecord (fields : List (List ℕ)) (board : List ℕ) (position : ℕ) : Type 0 where
  pub code : IsCode board
  pub some : 1 ≤ position
  pub most : position ≤ POSITION_LIMIT
  pub fields_are : fields ≡ look_fields board position

-- the line is one record, `look,B,k`: who stands at position k of board B, 1 to 9,999, is asked
pub record IsLookLine (line board : List ℕ) (position : ℕ) : Type 0 where
  pub code : IsCode board
  pub some : 1 ≤ position
  pub most : position ≤ POSITION_LIMIT
  pub one : records_of line ≡ look_fields board position ∷ []

-- the line asks for no look
abbrev pub IsNoLook : List ℕ → Type 0
IsNoLook line = (board : List ℕ) (position : ℕ) → ¬ IsLookLine line board position
