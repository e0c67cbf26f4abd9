-- A wall of windows beside a book.
use Rattle.std.specs.Prelude.{◌≡◌}
use Rattle.board_window.specs.Walls.{FrontValue}
use Rattle.desk_model.specs.histories.History.{History}

-- the wall is of a desk that was opened as in this history, and has all its entries
pub record HasAll (wall : FrontValue) (h : History) : Type 0 where
  pub opening : wall.wall.opening ≡ h.opening
  pub entries : wall.entries ≡ h.entries
