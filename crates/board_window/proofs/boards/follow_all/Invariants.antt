use Rattle.std.proofs.Common.{◌≡◌, ◌++◌, map, take, drop}
use Rattle.board_window.specs.Becomes.{becomes}
use Rattle.board_window.proofs.boards.follow_all.Given as goal

abbrev pub invariant-loop-board : goal.invariant-loop-board
invariant-loop-board l = l.board-items ≡ map (becomes l.from l.cmd) (take l.board-index l.fn.boards.items) ++ drop l.board-index l.fn.boards.items
