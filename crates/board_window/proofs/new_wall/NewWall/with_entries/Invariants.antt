use Rattle.std.proofs.Common.{◌≡◌, take}
use Rattle.board_window.proofs.new_wall.NewWall.with_entries.Given as goal

-- it has the first entries
abbrev pub invariant-loop-entry : goal.invariant-loop-entry
invariant-loop-entry l = record {
  entries : l.wall.entries ≡ take l.entry-index l.entries;
  opening : l.wall.wall.opening ≡ l.opening;
}
