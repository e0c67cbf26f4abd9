-- Day files: an opening, and commands after it.
use Rattle.std.specs.Prelude.{◌≡◌, ℕ, ◌<◌, ◌≤◌, ◌+◌, List, ◌∷◌, ◌++◌, length, map}
use Rattle.std.specs.List.{All}
use Rattle.record_rows.specs.Rows.{records_of}
use Rattle.desk_model.specs.statements.Opening.{OpeningValue}
use Rattle.desk_model.specs.statements.Statement.{StatedValue}
use Rattle.desk_model.specs.statements.Fits.{IsStated}
use Rattle.desk_model.specs.texts.StatedTexts.{stated_fields}
use Rattle.command_parser.specs.OpeningRecord.{StatesOpening}
use Rattle.command_parser.specs.Spelled.{StatesCommand}
use Rattle.command_parser.specs.RecordForms.{IsWrongAt}
use Rattle.command_parser.specs.declared.limits.TheConstants.{RECORD_LIMIT}
use Rattle.command_parser.specs.declared.day_fault.DayFault.{DayFault}
use Rattle.command_parser.specs.declared.day_fault.DayFault.TheVariants as fault
use Rattle.command_parser.specs.declared.more_fault.MoreFault.{MoreFault}
use Rattle.command_parser.specs.declared.more_fault.MoreFault.TheVariants as more

-- the records state these commands, in their order
pub record StateCommands (records : List (List (List ℕ))) (commands : List StatedValue) : Type 0 where
  pub valid : All IsStated commands
  pub fields : records ≡ map stated_fields commands

-- of these records, where the first has this number, this is the first that states no command, and this is its first wrong field
pub record HasWrong (first : ℕ) (records : List (List (List ℕ))) (record_no field : ℕ) : Type 0 where
  pub before : List (List (List ℕ))
  pub bad : List (List ℕ)
  pub after : List (List (List ℕ))
  pub parts : records ≡ before ++ bad ∷ after
  pub commands : List StatedValue
  pub states : StateCommands before commands
  pub wrong : (s : StatedValue) → ¬ StatesCommand bad s
  pub record_is : record_no ≡ length before + first
  pub field_is : IsWrongAt bad field

-- there are no more records than a day file may have, the first is an opening's, and these are behind it
pub record IsOpened (bytes : List ℕ) (o : OpeningValue) (rest : List (List (List ℕ))) : Type 0 where
  pub few : length (records_of bytes) ≤ RECORD_LIMIT
  pub first : List (List ℕ)
  pub parts : records_of bytes ≡ first ∷ rest
  pub opening : StatesOpening first o

-- the first record is this opening's, and those after it state these commands
pub record IsDayFile (bytes : List ℕ) (o : OpeningValue) (commands : List StatedValue) : Type 0 where
  pub rest : List (List (List ℕ))
  pub opened : IsOpened bytes o rest
  pub states : StateCommands rest commands

-- the bytes are a day file
pub record IsSomeDayFile (bytes : List ℕ) : Type 0 where
  pub opening : OpeningValue
  pub commands : List StatedValue
  pub day : IsDayFile bytes opening commands

-- there are more records than a day file may have
abbrev pub HasTooMany : List ℕ → Type 0
HasTooMany bytes = RECORD_LIMIT < length (records_of bytes)

-- there are no more records than a day file may have, and the first is no opening's, or there is none
pub record HasNoOpening (bytes : List ℕ) : Type 0 where
  pub few : length (records_of bytes) ≤ RECORD_LIMIT
  pub none : (o : OpeningValue) (rest : List (List (List ℕ))) → ¬ IsOpened bytes o rest

-- of the records after the opening, which is record 1, this is the first that states no command, and this its first wrong field
pub record HasUnreadable (bytes : List ℕ) (record_no field : ℕ) : Type 0 where
  pub opening : OpeningValue
  pub rest : List (List (List ℕ))
  pub opened : IsOpened bytes opening rest
  pub wrong : HasWrong 2 rest record_no field

-- what the fault says holds of the bytes; want of memory says nothing of them
abbrev pub HasFault : List ℕ → DayFault → Type 0
HasFault bytes fault.TooMany = HasTooMany bytes
HasFault bytes fault.NoOpening = HasNoOpening bytes
HasFault bytes (fault.Unreadable record_no field) = HasUnreadable bytes record_no field
HasFault bytes fault.NoMemory = ⊥

-- a fault of the records after the opening, as one of the day file
abbrev pub day_fault : MoreFault → DayFault
day_fault more.TooMany = fault.TooMany
day_fault (more.Unreadable record_no field) = fault.Unreadable record_no field
day_fault more.NoMemory = fault.NoMemory

-- a record after the opening states no command
pub record IsUnreadable (bytes : List ℕ) : Type 0 where
  pub record_no : ℕ
  pub field : ℕ
  pub has : HasUnreadable bytes record_no field
