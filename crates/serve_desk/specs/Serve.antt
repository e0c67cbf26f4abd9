-- What serving lines behind a day file makes of the source, the lines and the sink.
use Rattle.std.specs.Prelude.{◌≡◌, ◌⊎◌, ℕ, ◌+◌, ◌<◌, Option, List, length, map, take, drop, slice_index_or}
use Rattle.std.specs.List.{All}
use Rattle.desk_model.specs.statements.Entry.{EntryValue}
use Rattle.desk_model.specs.histories.History.{History}
use Rattle.desk_model.specs.texts.Journal.{journal}
use Rattle.desk_model.specs.histories.Legal.{IsLegal, given}
use Rattle.desk_model.specs.statements.Opening.{OpeningValue, IsOpening}
use Rattle.desk_model.specs.statements.Statement.{StatedValue}
use Rattle.desk_model.specs.declared.limits.TheConstants.{LAST_CALLER}
use Rattle.command_parser.specs.DayFile.{IsDayFile}
use Rattle.day_replay.specs.Ends.{WasRead}
use Rattle.day_replay.specs.Replay.{by_the_day_file}
use Rattle.day_replay.specs.declared.day_input.TheConstants.{DAY_BYTES}
use Rattle.turn_gate.specs.Told.{own, IsNumber}
use Rattle.serve_desk.specs.declared.limits.TheConstants.{CALLS_PER_LINE}
use Rattle.serve_desk.specs.Told.{LineValue}
use Rattle.serve_desk.specs.AllLines.{IsServed, OneLine, AreAllServed}

-- there are fewer lines than can be served, or more
abbrev pub IsNoNumberOfLines : ℕ → Type 0
IsNoNumberOfLines count = (count ≡ 0) ⊎ (LAST_CALLER < count)

-- what became of one line, beside all entries of the desk
abbrev pub OneOfAll : Type 1
OneOfAll = List EntryValue → OneLine

-- lines were served so at a desk that stands behind this history, and this was done with the journal of the legal history that goes on
-- from it
pub record ServesAllBehind (One : OneOfAll) (before : History) (lines later : List LineValue) (Writes : List ℕ → Type 0) : Type 0 where
  pub after : History
  pub opened : after.opening ≡ before.opening
  pub legal : IsLegal after
  pub served : AreAllServed (One after.entries) before.entries after.entries lines later
  pub written : Writes (journal after)

-- there is one legal history of a desk that was opened so. Its first entries have these commands, each once, in their order, with
-- caller 0; the caller of each later one is the number of a line; and of each line's number it has just the entries that come of
-- what the line gave. This was done with its journal
pub record ServesAllOf (One : OneOfAll) (o : OpeningValue) (commands : List StatedValue) (lines later : List LineValue) (Writes : List ℕ → Type 0) : Type 0 where
  pub history : History
  pub opened : history.opening ≡ o
  pub legal : IsLegal history
  pub setup : map given (take (length commands) history.entries) ≡ map by_the_day_file commands
  pub callers : All (λ e. IsNumber (length lines) e.caller) (drop (length commands) history.entries)
  pub count : length later ≡ length lines
  pub each : (i : ℕ) (line : LineValue) → i < length lines
      → One history.entries (i + 1) (own history.entries (i + 1)) (slice_index_or lines i line) (slice_index_or later i line)
  pub written : Writes (journal history)

-- a day file was read, and lines were served so behind it at a desk that was opened so: by the opening, and how many entries the day
-- file's commands made
pub record ServesAllOfDay (One : OpeningValue → ℕ → OneOfAll) (before after : Option (List ℕ)) (lines later : List LineValue) (Writes : List ℕ → Type 0) : Type 0 where
  pub opening : OpeningValue
  pub valid : IsOpening opening
  pub commands : List StatedValue
  pub read : WasRead DAY_BYTES before after (λ bytes. IsDayFile bytes opening commands)
  pub serves : ServesAllOf (One opening (length commands)) opening commands lines later Writes

-- each line by a session without looks
abbrev pub served : OpeningValue → ℕ → OneOfAll
served o begun entries number mine line later = IsServed CALLS_PER_LINE mine line later

abbrev pub ServesDay : Option (List ℕ) → Option (List ℕ) → List LineValue → List LineValue → (List ℕ → Type 0) → Type 0
ServesDay before after lines later Writes = ServesAllOfDay served before after lines later Writes
