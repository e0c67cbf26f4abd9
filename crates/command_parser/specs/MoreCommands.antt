-- Commands that a journal goes on with.
use Rattle.std.specs.Prelude.{ℕ, ◌<◌, ◌≤◌, List, length}
use Rattle.record_rows.specs.Rows.{records_of}
use Rattle.desk_model.specs.statements.Statement.{StatedValue}
use Rattle.command_parser.specs.DayFile.{StateCommands, HasWrong}
use Rattle.command_parser.specs.declared.more_fault.MoreFault.{MoreFault}
use Rattle.command_parser.specs.declared.more_fault.MoreFault.TheVariants as fault

-- there are no more records than there is room for, and they state these commands
pub record AreCommands (bytes : List ℕ) (room : ℕ) (commands : List StatedValue) : Type 0 where
  pub few : length (records_of bytes) ≤ room
  pub states : StateCommands (records_of bytes) commands

-- there are no more records than there is room for, and of these, where the first is record 1, this is the first that states no
-- command, and this its first wrong field
pub record HasUnreadableCommand (bytes : List ℕ) (room record_no field : ℕ) : Type 0 where
  pub few : length (records_of bytes) ≤ room
  pub wrong : HasWrong 1 (records_of bytes) record_no field

-- what the fault says holds of the bytes; want of memory says nothing of them
abbrev pub HasMoreFault : List ℕ → ℕ → MoreFault → Type 0
HasMoreFault bytes room fault.TooMany = room < length (records_of bytes)
HasMoreFault bytes room (fault.Unreadable record_no field) = HasUnreadableCommand bytes room record_no field
HasMoreFault bytes room fault.NoMemory = ⊥
