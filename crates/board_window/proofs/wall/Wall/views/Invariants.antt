use Rattle.std.proofs.Common.{◌≡◌, ◌≤◌, vec_len, vec_capacity}
use Rattle.std.specs.List.{All}
use Rattle.board_window.specs.Walls.{front_of}
use Rattle.board_window.proofs.wall.Wall.views.Given as goal

abbrev pub invariant-loop : goal.invariant-loop
invariant-loop l = record {
  same : l.self ≡ l.fn.self;
  count : vec_len l.views ≡ l.counter;
  room : l.count ≤ vec_capacity l.views;
  each : All (λ view. view ≡ front_of l.fn.self.wall l.fn.self.shown) l.views.items;
}
