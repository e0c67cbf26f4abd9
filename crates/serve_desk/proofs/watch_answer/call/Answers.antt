use Rattle.std.proofs.Common.{arith}
use Rattle.serve_desk.proofs.WatchAnswerLemmas.{RepliesWatched-called, RepliesWatched-spent, RepliesWatched-unkept}
use Rattle.serve_desk.proofs.watch_answer.call.Goals as goal

pub returns-in-Some-clause-replies : goal.returns-in-Some-clause-replies
returns-in-Some-clause-replies g c heard few =
    let fewer = rw c.in-Ok.is at c.call-seat.ensures.not_spent in
    let put = c.put_entry-ends.ensures in
    RepliesWatched-called c.what_one_entry_more_makes_known.ensures.mine _ c.args.desk.now heard _ _ _ _ _ _ _ _ c.in-Some.showing.note c.in-Ok.receipt _ c.in-Some.showing.behind few (omega (arith, fewer))
    (rw c.in-Ok.is at c.call-seat.ensures.receipt) (rw (c.in-Ok.is, c.in-Some.is) at c.call-seat.ensures.shown) c.learn-behind.ensures.begins c.learn-behind.ensures.told
    (rw c.learn-behind.ensures.behind at put.shown) (rw c.learn-behind.ensures.behind at put.not_shown)

pub returns-in_default-clause-replies : goal.returns-in_default-clause-replies
returns-in_default-clause-replies g c heard few =
    let fewer = rw c.in-Ok.is at c.call-seat.ensures.not_spent in
    RepliesWatched-unkept c.what_one_entry_more_makes_known.ensures.mine _ heard _ _ _ _ _ _ _ c.in-Ok.receipt few (omega (arith, fewer))
    (rw c.in-Ok.is at c.call-seat.ensures.receipt) c.put_journal_fault.ensures.puts

pub returns-in-Err-clause-replies : goal.returns-in-Err-clause-replies
returns-in-Err-clause-replies g c heard few =
    let no_call = rw c.in-Err.is at c.call-seat.ensures.spent in
    RepliesWatched-spent _ _ _ _ _ _ _ _ _ _ few (omega (arith, no_call.1)) no_call.0 c.put_on.ensures.puts
