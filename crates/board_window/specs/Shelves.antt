-- The boards with the list that they are made of, which a wall keeps twice, and what changes them.
use Rattle.std.specs.Prelude.{◌≡◌, ℕ, Option, Some, IfSome, List, fold}
use mathlib.Core.Option.{some}
use lib.ListN.{get_elem?}
use Rattle.desk_model.specs.histories.History.{said}
use Rattle.board_window.specs.Becomes.{boards_after, declines_from}
use Rattle.board_window.specs.Shows.{AreBoards}
use Rattle.board_window.specs.Walls.{FrontValue, history_in, longer_by}
use Rattle.board_window.specs.declared.change.Change.{Change}
use Rattle.board_window.specs.declared.shelf.Shelf.{Shelf}
use Rattle.board_window.specs.declared.wall_name.WallName.{WallName}

-- a shelf after a change, whatever it is
abbrev pub after : Shelf → Change → Shelf
after s c = record { boards = boards_after c.from c.entry s.boards; front = c.front }

-- and after several, one after another
abbrev pub after_all : Shelf → List Change → Shelf
after_all s changes = fold after s changes

-- the change is that of the next entry of a list
pub record IsNextChange (f : FrontValue) (c : Change) : Type 0 where
  pub front : c.front ≡ longer_by f c.entry
  pub from : c.from ≡ said (declines_from (history_in f)) c.entry

-- the shelf shows the boards of its list
abbrev pub IsRight : Shelf → Type 0
IsRight s = AreBoards s.boards (history_in s.front)

-- ---- the rule of what is published, and what readers and the writer know of it: which wall it is of, if anything

pub record IsPublished (s : Shelf) (views : List (Option WallName)) : Type 0 where
  pub right : IsRight s
  pub wall : (seat : ℕ) (name : WallName) → get_elem? views seat ≡ some (Some name) → name ≡ s.front.wall

-- the writer publishes, and knows the wall
abbrev pub Publishes : Option WallName → Shelf → Shelf → Option WallName → Type 0
Publishes before old new later = later ≡ Some new.front.wall

-- a reader takes what is published
abbrev pub Enters : Option WallName → Shelf → Shelf → Option WallName → Type 0
Enters before old new later = (later ≡ before) × IsRight new × IfSome before (λ name. name ≡ new.front.wall)
