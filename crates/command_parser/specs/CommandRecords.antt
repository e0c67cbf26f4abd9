-- Records of commands, read one after another.
use Rattle.std.specs.Prelude.{◌≡◌, ℕ, ◌<◌, ◌≤◌, ◌+◌, IfSome, Option, List, [], ◌∷◌, ◌++◌, length}
use Rattle.std.specs.Borrow.{Bor}
use Rattle.record_rows.specs.Rows.{HasLeft, records_of}
use Rattle.desk_model.specs.statements.Statement.{StatedValue}
use Rattle.command_parser.specs.declared.command_records.CommandRecords.{CommandRecords}
use Rattle.command_parser.specs.declared.limits.TheConstants.{COMMAND_LIMIT}
use Rattle.command_parser.specs.declared.more_fault.MoreFault.{MoreFault}
use Rattle.command_parser.specs.declared.more_fault.MoreFault.TheVariants as fault
use Rattle.command_parser.specs.declared.open_day.OpenDay.{OpenDay}
use Rattle.command_parser.specs.DayFile.{StateCommands, HasWrong}
use Rattle.command_parser.specs.OpeningRecord.{StatesOpening}
use Rattle.command_parser.specs.Spelled.{SpellsStated}

-- what the record that was read last states
abbrev pub last_stated : CommandRecords → StatedValue
last_stated records = records.stated

-- its bytes, where it gives them out
abbrev pub last_line : CommandRecords → Option (Bor (List ℕ))
last_line records = records.line

-- these are the text of what it states
abbrev pub IsSpelled : CommandRecords → Type 0
IsSpelled records = IfSome (last_line records) (λ line. SpellsStated line.now (last_stated records))

-- how many more records may be read
abbrev pub records_left : CommandRecords → ℕ
records_left records = records.left

-- of these records, where the first has this number and of which there may be so many, those that state these commands were read, and
-- the others are still to be read
pub record HasRead (first most : ℕ) (all : List (List (List ℕ))) (commands : List StatedValue) (records : CommandRecords) : Type 0 where
  pub read : List (List (List ℕ))
  pub rest : List (List (List ℕ))
  pub parts : all ≡ read ++ rest
  pub states : StateCommands read commands
  pub left : HasLeft records.rows rest
  pub number : records.next_no ≡ length read + first
  pub room : length read + records.left ≡ most

-- there are no more records than there may be, and they state these commands
pub record StateAll (most : ℕ) (all : List (List (List ℕ))) (commands : List StatedValue) : Type 0 where
  pub few : length all ≤ most
  pub states : StateCommands all commands

-- there are no more records than there may be, and of these, where the first has this number, this is the first that states no command,
-- and this its first wrong field
pub record HasWrongRecord (first most : ℕ) (all : List (List (List ℕ))) (record_no field : ℕ) : Type 0 where
  pub few : length all ≤ most
  pub wrong : HasWrong first all record_no field

-- what the fault says holds of the records; want of memory says nothing of them
abbrev pub HasRecordFault : ℕ → ℕ → List (List (List ℕ)) → MoreFault → Type 0
HasRecordFault first most all fault.TooMany = most < length all
HasRecordFault first most all (fault.Unreadable record_no field) = HasWrongRecord first most all record_no field
HasRecordFault first most all fault.NoMemory = ⊥

-- the first record of the bytes is this opening's, and the others, of which there may be as many as a day file has commands, are still
-- to be read
pub record IsOpen (bytes : List ℕ) (day : OpenDay) (rest : List (List (List ℕ))) : Type 0 where
  pub first : List (List ℕ)
  pub parts : records_of bytes ≡ first ∷ rest
  pub opening : StatesOpening first day.opening
  pub unread : HasRead 2 COMMAND_LIMIT rest [] day.records
