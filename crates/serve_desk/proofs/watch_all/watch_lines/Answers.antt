use Rattle.std.proofs.Common.{Some, ap, arith, length, map, sym, ◌∙◌}
use Rattle.std.proofs.lemmas.List.{length-map}
use Rattle.serve_desk.specs.Told.{line_of}
use Rattle.serve_desk.proofs.LineLemmas.{length-new_seats, map-map, AreServed-all}
use Rattle.serve_desk.proofs.WatchLineLemmas.{AttendsOne-watched, All-manned, All-at-seats, All-viewed, All-seated-still, AreWatched-began}
use Rattle.serve_desk.proofs.watch_all.watch_lines.Goals as goal

pub seat_lines-requires-2-clause-as_many : goal.seat_lines-requires-2-clause-as_many
seat_lines-requires-2-clause-as_many g c =
    omega (arith, ap length c.in-Ok.ensures.seats, length-new_seats c.in-Ok.made.0 1 c.len-count.result, ap length c.seat_lines.ensures.lines, length-map c.seat_lines.new.posts.items (λ post. post.line))

pub attend_all-requires-after_bounds : goal.attend_all-requires-after_bounds
attend_all-requires-after_bounds g c κs bounds =
    All-manned c.seat_lines-2.new.posts.items c.seat_lines.new.posts.items c.in-Ok.made.1.items c.in-Ok.made.2.items (λ post. post.seat) (λ post. post.line) (λ viewed. viewed.seat) c.in-Ok.made.0 c.len-count.result
    c.seat_lines-2.ensures.lines c.seat_lines-2.ensures.seats c.seat_lines.ensures.seats c.in-Ok.ensures.seats c.in-Ok.ensures.each c.in-Ok.ensures.views
    (λ k d within. c.in-Ok.ensures.shown k d within ∙ sym (ap (λ k. k.book.entries) c.in-Ok.ensures.start))
    (ap (λ k. k.book.sure) c.in-Ok.ensures.start ∙ sym (ap (λ k. length k.book.entries) c.in-Ok.ensures.start))

pub leave_posts-requires-clause-seated : goal.leave_posts-requires-clause-seated
leave_posts-requires-clause-seated g c =
    All-at-seats _ c.seat_lines-2.new.posts.items c.attend_all.new.posts.items (λ post. post.seat) (λ post. post.line.seat)
    (λ post. let line = goal.CallerLine-dyn g (post.line.line.vtable, post.line.line.value) in line_of (line.faults post.line.line.value) (line.calls post.line.line.value)) _ c.attend_all.ensures.each (omega arith)

pub leave_posts-requires-clause-seat_room : goal.leave_posts-requires-clause-seat_room
leave_posts-requires-clause-seat_room g c =
    let posts = c.seat_lines-2.new.posts.items in
    let seats = c.in-Ok.made.1.items in
    omega (arith, c.attend_all.ensures.count, c.seat_lines-2.ensures.seat_room, ap length c.seat_lines-2.ensures.seats, length-map posts (λ post. post.seat), length-map seats (λ seat. Some seat))

pub leave_posts-requires-2-clause-seated : goal.leave_posts-requires-2-clause-seated
leave_posts-requires-2-clause-seated g c =
    All-viewed _ c.seat_lines-2.new.posts.items c.attend_all.new.posts.items _ (λ post. post.seat) (λ post. post.line) (λ viewed. viewed.seat)
    (λ post. let line = goal.CallerLine-dyn g (post.line.line.vtable, post.line.line.value) in line_of (line.faults post.line.line.value) (line.calls post.line.line.value)) _ c.attend_all.ensures.each (omega arith) c.leave_posts.ensures.lines

pub close-requires : goal.close-requires
close-requires g c =
    All-seated-still _ c.seat_lines-2.new.posts.items c.attend_all.new.posts.items _ (λ post. post.seat) (λ post. post.line.seat)
    (λ post. let line = goal.CallerLine-dyn g (post.line.line.vtable, post.line.line.value) in line_of (line.faults post.line.line.value) (line.calls post.line.line.value)) _ c.attend_all.ensures.each (omega arith) c.leave_posts.ensures.seats

pub unreachable-requires : goal.unreachable-requires
unreachable-requires g c =
    let posts = c.seat_lines-2.new.posts.items in
    let later = c.attend_all.new.posts.items in
    let seats = c.in-Ok.made.1.items in
    let left = c.leave_posts.new.seats.items in
    omega (
      arith,
      c.in-Err-close.ensures.missing.2,
      ap (λ k. k.seats) c.in-Ok.ensures.start,
      c.attend_all.ensures.count,
      ap length c.leave_posts.ensures.seats,
      length-map left (λ seat. Some seat),
      length-map later (λ post. post.seat),
      ap length c.seat_lines-2.ensures.seats,
      length-map posts (λ post. post.seat),
      length-map seats (λ seat. Some seat),
      ap length c.in-Ok.ensures.seats,
      length-new_seats c.in-Ok.made.0 1 c.len-count.result,
    )

pub returns-clause-watched : goal.returns-clause-watched
returns-clause-watched g c =
    let posts = c.seat_lines-2.new.posts.items in
    let later = c.attend_all.new.posts.items in
    let attends = AttendsOne-watched _ (g.B.Steps.kept c.in-Ok-close.book) (λ post. post.seat) (λ post. post.line.seat)
    (λ post. let line = goal.CallerLine-dyn g (post.line.line.vtable, post.line.line.value) in line_of (line.faults post.line.line.value) (line.calls post.line.line.value)) c.in-Ok.made.0
    posts later _ c.in-Ok-close.ensures.book c.attend_all.ensures.each in
    let taken = sym (map-map (λ post. post.line) (λ viewed. viewed.line) posts) ∙ (ap (map (λ viewed. viewed.line)) c.seat_lines-2.ensures.lines ∙ c.seat_lines.ensures.lines) in
    let left = c.leave_posts-2.ensures.lines ∙ (ap (map (λ viewed. viewed.line)) c.leave_posts.ensures.lines ∙ map-map (λ post. post.line) (λ viewed. viewed.line) later) in
    AreWatched-began _ _ _ _ _ _ _ c.in-Ok.ensures.start
    (AreServed-all _ _ posts later _ _ _ _ (λ post. post.seat) (λ post. post.line.line) _ _ _ _ c.in-Ok-close.ensures.book attends (omega arith) taken left c.in-Ok.ensures.seats c.seat_lines-2.ensures.seats
    c.leave_posts.ensures.seats (ap (λ k. k.seats) c.in-Ok.ensures.start) (omega arith) c.in-Ok-close.ensures.known c.in-Ok-close.ensures.kept)
