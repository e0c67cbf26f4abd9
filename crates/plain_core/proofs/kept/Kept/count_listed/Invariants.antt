use Rattle.std.proofs.Common.{◌≡◌, ◌≤◌, ◌+◌, ◌*◌, length, drop, vec_capacity}
use Rattle.desk_model.specs.declared.limits.TheConstants.{MEMBER_LIMIT}
use Rattle.desk_model.specs.histories.History.{History}
use Rattle.desk_model.specs.boards.Boards.{chain}
use Rattle.plain_core.specs.Kept.{IsKept}
use Rattle.plain_core.specs.Room.{HasRoom}
use Rattle.plain_core.proofs.kept.Kept.count_listed.Given as goal

abbrev pub invariant-loop-board : goal.invariant-loop-board
invariant-loop-board l = record {
  most : l.listed ≤ MEMBER_LIMIT * l.board-index;
  listed : (h : History) → IsKept l.self.opening l.self.entries.items h → l.listed + length (chain h (drop l.board-index l.board-items)) ≡ length (chain h l.board-items);
  room : HasRoom (vec_capacity l.self.entries) l.lists;
}
