use Rattle.std.proofs.Common.{◌≡◌, drop, vec_capacity}
use Rattle.desk_model.specs.answers.ExplainAnswer.{position_in}
use Rattle.desk_model.specs.histories.History.{History}
use Rattle.desk_model.specs.boards.Boards.{chain}
use Rattle.plain_core.specs.Kept.{IsKept}
use Rattle.plain_core.specs.Room.{HasRoom}
use Rattle.plain_core.proofs.kept.Kept.first_position.Given as goal

abbrev pub invariant-loop-board : goal.invariant-loop-board
invariant-loop-board l = record {
  first : (h : History) → IsKept l.self.opening l.self.entries.items h
      → position_in (chain h (drop l.board-index l.board-items)) l.person ≡ position_in (chain h l.board-items) l.person;
  room : HasRoom (vec_capacity l.self.entries) l.lists;
}
