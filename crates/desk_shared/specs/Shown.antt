-- What contracts see of a book with its wall of windows, and what a call of a desk with windows shows.
use Rattle.std.specs.Prelude.{◌≡◌, ℕ, ◌+◌, List, length}
use mathlib.Core.List.{IsPrefix}
use Rattle.board_window.specs.Walls.{FrontValue}
use Rattle.board_window.specs.declared.wall_name.WallName.{WallName}
use Rattle.desk_model.specs.statements.Entry.{EntryValue}
use Rattle.desk_model.specs.histories.History.{History}
use Rattle.desk_model.specs.histories.Mark.{Mark, wall_of}
use Rattle.turn_gate.specs.Seats.{GateValue}

-- its history, how many entries it has room for beside, its wall, what that shows and was given, and how many entries are kept, the first
pub record ShownValue : Type 0 where
  pub history : History
  pub left : ℕ
  pub wall : WallName
  pub shown : List EntryValue
  pub added : List EntryValue
  pub sure : ℕ

-- the mark that tells this wall
abbrev pub mark_of : WallName → Mark
mark_of name = wall_of name.logbook.book

-- it is the wall of the book that callers share at this desk
pub record IsWallOf (desk : GateValue) (name : WallName) : Type 0 where
  pub mark : desk.start.book.wall.mark ≡ mark_of name
  pub opening : name.opening ≡ desk.start.book.opening

-- a view of that wall
abbrev pub IsViewOf : GateValue → FrontValue → Type 0
IsViewOf desk view = IsWallOf desk view.wall

-- the note is of the desk's wall, and of the entries that are known it lacks so many, the last
pub record ShowsTo (desk : GateValue) (note : FrontValue) (behind : ℕ) (known : List EntryValue) : Type 0 where
  pub wall : IsWallOf desk note.wall
  pub begins : IsPrefix note.entries known
  pub lacks : length note.entries + behind ≡ length known
