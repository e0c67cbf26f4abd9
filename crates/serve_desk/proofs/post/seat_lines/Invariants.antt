use Rattle.std.proofs.Common.{◌≡◌, ◌+◌, ◌≤◌, ◌++◌, map, vec_len, vec_capacity, Some}
use Rattle.serve_desk.proofs.post.seat_lines.Given as goal

abbrev pub invariant-loop-lines : goal.invariant-loop-lines
invariant-loop-lines g l = record {
  as_many : vec_len l.seats ≡ vec_len l.lines;
  lines : map (λ post. post.line) l.posts.items ++ l.lines.items ≡ l.fn.lines.items;
  seats : map (λ post. post.seat) l.posts.items ++ map (λ seat. Some seat) l.seats.items ≡ map (λ seat. Some seat) l.fn.seats.items;
  room : vec_len l.posts + vec_len l.lines ≤ vec_capacity l.posts;
  line_room : vec_len l.fn.lines ≤ vec_capacity l.lines;
  seat_room : vec_len l.fn.seats ≤ vec_capacity l.seats;
}

abbrev pub decreases-loop-lines : goal.decreases-loop-lines
decreases-loop-lines g l = vec_len l.lines
