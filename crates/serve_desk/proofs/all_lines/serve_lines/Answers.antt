use Rattle.std.proofs.Common.{arith, ap, length}
use Rattle.serve_desk.specs.Told.{line_of}
use Rattle.serve_desk.proofs.LineLemmas.{length-new_seats, All-seated, All-left, AttendsOne-session, AreServed-all, AreServed-began}
use Rattle.serve_desk.proofs.all_lines.serve_lines.Goals as goal

pub seat_lines-requires-clause-as_many : goal.seat_lines-requires-clause-as_many
seat_lines-requires-clause-as_many g c = omega (arith, ap length c.in_ok-desk.ensures.seats, length-new_seats c.in_ok-desk.desk 1 c.len-count.result)

pub attend_all-requires-after_bounds : goal.attend_all-requires-after_bounds
attend_all-requires-after_bounds g c κs bounds = All-seated _ _ (λ post. post.seat) _ c.seat_lines.ensures.seats c.in_ok-desk.ensures.each

pub close-requires : goal.close-requires
close-requires g c =
    All-left c.seat_lines.new.posts.items c.attend_all.new.posts.items _ (λ post. post.seat)
    (λ post. let line = goal.CallerLine-dyn g (post.line.vtable, post.line.value) in line_of (line.faults post.line.value) (line.calls post.line.value)) _
    c.attend_all.ensures.each (omega arith) c.leave_posts.ensures.seats

pub returns-clause-served : goal.returns-clause-served
returns-clause-served g c =
    let attends = AttendsOne-session (λ post. post.seat) (λ post. let line = goal.CallerLine-dyn g (post.line.vtable, post.line.value) in line_of (line.faults post.line.value) (line.calls post.line.value)) _
    c.seat_lines.new.posts.items c.attend_all.new.posts.items _ c.in-Ok.ensures.book c.attend_all.ensures.each in
    AreServed-began _ _ _ _ _ c.in_ok-desk.ensures.start
    (AreServed-all (λ s. Unit {0}) _ c.seat_lines.new.posts.items c.attend_all.new.posts.items _ _ _ _ (λ post. post.seat) (λ post. post.line) _ _ _ _ c.in-Ok.ensures.book attends (omega arith) c.seat_lines.ensures.lines
    c.leave_posts.ensures.lines c.in_ok-desk.ensures.seats c.seat_lines.ensures.seats c.leave_posts.ensures.seats (ap (λ k. k.seats) c.in_ok-desk.ensures.start) (omega arith) c.in-Ok.ensures.known (λ i d within. tt))
