-- Lines that state a minute ahead of a clock's.
use Rattle.std.specs.Prelude.{◌≡◌, ◌⊎◌, ℕ, ◌+◌, ◌<◌, ◌≤◌, ⊤, Option, None, Some, List, [], ◌∷◌, ◌++◌, codes}
use Rattle.desk_base.specs.Minute.{minute_text}
use Rattle.desk_model.specs.statements.Statement.{StatedValue}
use Rattle.command_parser.specs.CommandLine.{IsCommandLine}
use Rattle.caller_lines.specs.CrewLines.{IsCrewLine}

-- the line is a command that is stated at this minute
pub record IsCommandAt (line : List ℕ) (minute : ℕ) : Type 0 where
  pub stated : StatedValue
  pub command : IsCommandLine line stated
  pub at : stated.minute ≡ minute

-- the line asks for a crew call at this minute
pub record IsCrewLineAt (line : List ℕ) (minute : ℕ) : Type 0 where
  pub first : ℕ
  pub second : ℕ
  pub crew : IsCrewLine line minute first second

-- the line states this minute, as a command or as a crew call
abbrev pub StatesMinute : List ℕ → ℕ → Type 0
StatesMinute line minute = IsCommandAt line minute ⊎ IsCrewLineAt line minute

-- what the line states, if it states a minute, is no later than this one
abbrev pub IsWithin : ℕ → List ℕ → Type 0
IsWithin latest line = (minute : ℕ) → StatesMinute line minute → minute ≤ latest

-- the line states a later minute than this one
pub record IsAhead (latest : ℕ) (line : List ℕ) : Type 0 where
  pub minute : ℕ
  pub states : StatesMinute line minute
  pub later : latest < minute

-- what the line states is at most so many minutes ahead of the one that a clock told; where it told none, it may be any
abbrev pub IsInTime : Option ℕ → ℕ → List ℕ → Type 0
IsInTime None ahead line = ⊤
IsInTime (Some now) ahead line = IsWithin (now + ahead) line

-- the line states a minute more than so many ahead of the one that a clock told; where it told none, no line does
abbrev pub IsTooFar : Option ℕ → ℕ → List ℕ → Type 0
IsTooFar None ahead line = ⊥
IsTooFar (Some now) ahead line = IsAhead (now + ahead) line

-- what is put in answer to such a line: the minute that the clock told
abbrev pub ahead_text : ℕ → List ℕ
ahead_text now = codes "ahead " ++ minute_text now ++ 10 ∷ []
