-- Which wall it is, and the beginnings of its list that notes and views stand for.
use Rattle.std.specs.Prelude.{List, [], ◌∷◌, ◌++◌}
use Rattle.logbook.specs.Pages.{Book}
use Rattle.desk_model.specs.statements.Entry.{EntryValue}
use Rattle.desk_model.specs.histories.History.{History, history_of}
use Rattle.desk_model.specs.statements.Opening.{OpeningValue}
use Rattle.board_window.specs.declared.wall_name.WallName.{WallName}

-- the wall whose list is kept in this logbook, of a desk that was opened so
abbrev pub name_of : OpeningValue → Book → WallName
name_of o book = record { opening = o; logbook = record { book = book } }

-- a beginning of a wall's list
pub record FrontValue : Type 0 where
  pub wall : WallName
  pub entries : List EntryValue

abbrev pub front_of : WallName → List EntryValue → FrontValue
front_of wall es = record { wall = wall; entries = es }

-- the desk's history up to there
abbrev pub history_in : FrontValue → History
history_in f = history_of f.wall.opening f.entries

-- the one with an entry more
abbrev pub longer_by : FrontValue → EntryValue → FrontValue
longer_by f e = front_of f.wall (f.entries ++ e ∷ [])
