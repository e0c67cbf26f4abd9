-- A caller's line.
use Rattle.std.specs.Prelude.{◌≡◌, ◌≢◌, ◌⊎◌, ℕ, List, [], ◌∷◌, length}
use Rattle.record_rows.specs.Rows.{records_of}
use Rattle.desk_model.specs.statements.Statement.{StatedValue}
use Rattle.command_parser.specs.declared.read_fail.ReadFail.{ReadFail}
use Rattle.command_parser.specs.declared.read_fail.ReadFail.TheVariants as fail
use Rattle.command_parser.specs.Spelled.{StatesCommand}
use Rattle.command_parser.specs.RecordForms.{IsWrongAt}

-- the line is one record, and it states this command
pub record IsCommandLine (line : List ℕ) (s : StatedValue) : Type 0 where
  pub fields : List (List ℕ)
  pub one : records_of line ≡ fields ∷ []
  pub states : StatesCommand fields s

-- the line is one record, which states no command, and this is its first wrong field
pub record IsWrongLine (line : List ℕ) (field : ℕ) : Type 0 where
  pub fields : List (List ℕ)
  pub one : records_of line ≡ fields ∷ []
  pub wrong : (s : StatedValue) → ¬ StatesCommand fields s
  pub field_is : IsWrongAt fields field

-- the line isn't one record, for which stands 0; or this is its first wrong field
abbrev pub IsMalformed : List ℕ → ℕ → Type 0
IsMalformed line field = ((length (records_of line) ≢ 1) × (field ≡ 0)) ⊎ IsWrongLine line field

-- what the failure says holds of the line; want of memory says nothing of it
abbrev pub HasFail : List ℕ → ReadFail → Type 0
HasFail line (fail.Malformed field) = IsMalformed line field
HasFail line fail.NoMemory = ⊥
