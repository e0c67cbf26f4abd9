use Rattle.std.proofs.Common.{◌≡◌, drop}
use Rattle.desk_model.specs.answers.ExplainAnswer.{position_in}
use Rattle.desk_model.specs.histories.History.{History}
use Rattle.desk_model.specs.boards.Boards.{chain}
use Rattle.fast_core.specs.KeptDesk.{Tells}
use Rattle.fast_core.proofs.kept_desk.KeptDesk.position_in.Given as goal

-- the person has no position on the boards so far
abbrev pub invariant-loop-board : goal.invariant-loop-board
invariant-loop-board l =
    (h : History) → Tells l.self h → position_in (chain h (drop l.board-index l.board-items)) l.person ≡ position_in (chain h l.board-items) l.person
