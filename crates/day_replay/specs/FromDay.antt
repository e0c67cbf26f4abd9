-- What is made of a day file.
use Rattle.std.specs.Prelude.{ℕ, ◌<◌, IfSome, Option, List, length}
use Rattle.std.specs.List.{All}
use Rattle.std.specs.Borrow.{Bor}
use Rattle.desk_model.specs.statements.Entry.{EntryValue}
use Rattle.desk_model.specs.statements.Fits.{IsStated}
use Rattle.desk_model.specs.statements.Opening.{OpeningValue, IsOpening}
use Rattle.desk_model.specs.statements.Statement.{StatedValue}
use Rattle.desk_model.specs.histories.History.{History}
use Rattle.command_parser.specs.CommandRecords.{StateAll}
use Rattle.command_parser.specs.DayFile.{IsDayFile}
use Rattle.command_parser.specs.Spelled.{SpellsStated}
use Rattle.command_parser.specs.declared.limits.TheConstants.{COMMAND_LIMIT, RECORD_LIMIT}
use Rattle.day_replay.specs.declared.day_input.TheConstants.{DAY_BYTES}
use Rattle.day_replay.specs.Ends.{WasRead}
use Rattle.day_replay.specs.Replay.{day_history}

-- the bytes are a day file, of whose opening and commands this is so
pub record IsMade (bytes : List ℕ) (Is : OpeningValue → List StatedValue → Type 0) : Type 0 where
  pub opening : OpeningValue
  pub commands : List StatedValue
  pub day : IsDayFile bytes opening commands
  pub is : Is opening commands

-- a day file was read, of whose opening and commands this is so
pub record WasMade (before after : Option (List ℕ)) (Is : OpeningValue → List StatedValue → Type 0) : Type 0 where
  pub opening : OpeningValue
  pub commands : List StatedValue
  pub read : WasRead DAY_BYTES before after (λ bytes. IsDayFile bytes opening commands)
  pub valid : IsOpening opening
  pub stated : All IsStated commands
  pub few : length commands < RECORD_LIMIT
  pub is : Is opening commands

-- the bytes, where there are any at hand, are the text of what the entry states
abbrev pub IsTextOf : Option (Bor (List ℕ)) → EntryValue → Type 0
IsTextOf line e = IfSome line (λ text. SpellsStated text.now e.stated)

-- the records behind an opening state commands, and of the history that begins with that opening and has these this is so
pub record AreReplayed (rest : List (List (List ℕ))) (o : OpeningValue) (Is : History → Type 0) : Type 0 where
  pub commands : List StatedValue
  pub states : StateAll COMMAND_LIMIT rest commands
  pub is : Is (day_history o commands)
