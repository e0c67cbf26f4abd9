use Rattle.std.proofs.Common.{◌≡◌, ◌+◌, ◌≤◌, ◌++◌, map, vec_len, vec_capacity, IsSome, Some}
use Rattle.std.specs.List.{All}
use Rattle.serve_desk.proofs.post.leave_posts.Given as goal

abbrev pub invariant-loop-posts : goal.invariant-loop-posts
invariant-loop-posts g l = record {
  seated : All (λ post. IsSome post.seat) l.posts.items;
  lines : l.lines.items ++ map (λ post. post.line) l.posts.items ≡ map (λ post. post.line) l.fn.posts.items;
  seats : map (λ seat. Some seat) l.seats.items ++ map (λ post. post.seat) l.posts.items ≡ map (λ post. post.seat) l.fn.posts.items;
  line_room : vec_len l.lines + vec_len l.posts ≤ vec_capacity l.lines;
  seat_room : vec_len l.seats + vec_len l.posts ≤ vec_capacity l.seats;
}

abbrev pub decreases-loop-posts : goal.decreases-loop-posts
decreases-loop-posts g l = vec_len l.posts
