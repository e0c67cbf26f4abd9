use Rattle.std.proofs.Common.{◌≡◌, ◌+◌, length, drop}
use Rattle.desk_model.specs.histories.History.{History}
use Rattle.desk_model.specs.boards.Boards.{chain}
use Rattle.fast_core.specs.KeptDesk.{Tells}
use Rattle.fast_core.proofs.kept_desk.KeptDesk.listed.Given as goal

-- the indexes of the boards so far
abbrev pub invariant-loop-board : goal.invariant-loop-board
invariant-loop-board l = (h : History) → Tells l.self h → l.count + length (chain h (drop l.board-index l.board-items)) ≡ length (chain h l.board-items)
