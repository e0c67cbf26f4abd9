-- A desk that goes on behind a journal.
use Rattle.std.specs.Prelude.{◌≡◌, ◌≢◌, ℕ, List}
use Rattle.desk_io.specs.declared.status.Status.{Status}
use Rattle.desk_io.specs.declared.status.Status.TheVariants.{Fine, WriteFault, TooLong, Unreadable}
use Rattle.desk_model.specs.statements.Statement.{StatedValue}
use Rattle.desk_model.specs.histories.History.{History}
use Rattle.desk_model.specs.texts.Journal.{journal}
use Rattle.line_writer.specs.Line.{wrong_line}
use Rattle.command_parser.specs.MoreCommands.{AreCommands, HasMoreFault}
use Rattle.command_parser.specs.declared.more_fault.MoreFault.TheVariants as fault
use Rattle.day_replay.specs.Ends.{EndsAs}
use Rattle.day_replay.specs.Replay.{goes_on}

-- the bytes are commands, no more than there is room for; and where the desk stood for a history whose journal this is, this was
-- done with the journal that goes on with them
pub record GoesOn (Stands : History → Type 0) (text more : List ℕ) (room : ℕ) (Writes : List ℕ → Type 0) : Type 0 where
  pub commands : List StatedValue
  pub are : AreCommands more room commands
  pub written : (h : History) → Stands h → text ≡ journal h → Writes (journal (goes_on h commands))

-- a field of a command is wrong, and this was done with the line that says which
pub record FindsWrongField (more : List ℕ) (room : ℕ) (Writes : List ℕ → Type 0) : Type 0 where
  pub record_no : ℕ
  pub field : ℕ
  pub has : HasMoreFault more room (fault.Unreadable record_no field)
  pub written : Writes (wrong_line record_no field)

-- which status comes where, by the commands
pub record EndsByTheCommands (result : Status) (more : List ℕ) (room : ℕ) : Type 0 where
  pub too_many : HasMoreFault more room fault.TooMany → EndsAs result TooLong
  pub unreadable : (record_no field : ℕ) → HasMoreFault more room (fault.Unreadable record_no field) → EndsAs result Unreadable
  pub commands : (commands : List StatedValue) → AreCommands more room commands → result ≢ WriteFault → EndsAs result Fine
