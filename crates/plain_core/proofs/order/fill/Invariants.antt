use Rattle.std.proofs.Common.{◌≡◌, ◌≤◌, take, vec_len, vec_capacity}
use Rattle.desk_model.specs.statements.Opening.{OpeningValue}
use Rattle.desk_model.specs.histories.History.{history_of}
use Rattle.desk_model.specs.histories.Register.{board_of}
use Rattle.desk_model.specs.boards.Boards.{order}
use Rattle.plain_core.proofs.order.fill.Given as goal

abbrev pub invariant-loop-i : goal.invariant-loop-i
invariant-loop-i l = record {
  order : (o : OpeningValue) → l.members.items ≡ order (history_of o (take l.i l.entries)) l.board;
  setup : (o : OpeningValue) → board_of (history_of o (take l.i l.entries)) l.board ≡ l.setup;
  few : vec_len l.members ≤ l.i;
  room : vec_capacity l.members ≡ vec_capacity l.fn.members;
}
