-- What contracts see of a wall.
use Rattle.std.specs.Prelude.{◌≡◌, ◌⊎◌, ℕ, Option, None, Some, List, [], ◌∷◌, ◌++◌, length}
use Rattle.desk_model.specs.statements.Entry.{EntryValue}
use Rattle.board_window.specs.Shelves.{IsNextChange}
use Rattle.board_window.specs.Walls.{FrontValue}
use Rattle.board_window.specs.declared.change.Change.{Change}
use Rattle.board_window.specs.declared.wall_name.WallName.{WallName}

-- which wall it is; the entries whose boards its views may see; those whose boards they may see once they are published; and those that it has been
-- given, of which the last may wait to be queued
pub record WallValue : Type 0 where
  pub wall : WallName
  pub shown : List EntryValue
  pub queued : List EntryValue
  pub added : List EntryValue

-- all that was added is queued; or all but the last, whose change waits
abbrev pub IsWaiting : FrontValue → FrontValue → Option Change → Type 0
IsWaiting queued added None = queued ≡ added
IsWaiting queued added (Some change) = (added ≡ change.front) × IsNextChange queued change

-- the entry behind so many others is taken, where none of those is missing; or nothing is
abbrev pub TakesAtMost : ℕ → EntryValue → List EntryValue → List EntryValue → Type 0
TakesAtMost place e before after = (after ≡ before) ⊎ ((length before ≡ place) × (after ≡ before ++ e ∷ []))
