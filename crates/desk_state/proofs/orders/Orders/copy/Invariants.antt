use Rattle.std.proofs.Common.{◌≡◌, ◌≤◌, length, take, vec_capacity}
use Rattle.desk_state.proofs.orders.Orders.copy.Given as goal

abbrev pub invariant-loop-board : goal.invariant-loop-board
invariant-loop-board l = record {
  copied : l.boards.items ≡ take l.board-index l.self.boards.items;
  room : length l.self.boards.items ≤ vec_capacity l.boards;
}
