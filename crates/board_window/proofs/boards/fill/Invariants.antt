use Rattle.std.proofs.Common.{◌≡◌, ◌≤◌, [], vec_len, vec_capacity}
use Rattle.std.specs.List.{All}
use Rattle.desk_model.specs.declared.limits.TheConstants.{BOARD_LIMIT}
use Rattle.board_window.proofs.boards.fill.Given as goal

abbrev pub invariant-loop : goal.invariant-loop
invariant-loop l = record {
  many : vec_len l.spare ≡ l.counter;
  room : BOARD_LIMIT ≤ vec_capacity l.spare;
  nobody : All (λ m. m ≡ []) l.spare.items;
}
