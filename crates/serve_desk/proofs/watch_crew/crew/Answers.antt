use Rattle.std.proofs.Common.{arith}
use Rattle.serve_desk.proofs.WatchAnswerLemmas.{RepliesWatched-crew, RepliesWatched-crew_unkept, RepliesWatched-too_few, RepliesWatched-too_many_requests}
use Rattle.serve_desk.proofs.watch_crew.crew.Goals as goal

pub returns-then-heard-eq-LINES_PER_CALLER-clause-replies : goal.returns-then-heard-eq-LINES_PER_CALLER-clause-replies
returns-then-heard-eq-LINES_PER_CALLER-clause-replies g c = RepliesWatched-too_many_requests _ _ _ _ _ _ _ _ _ tt c.if-heard-eq-LINES_PER_CALLER.true c.put_on-ends.ensures.puts

pub returns-in-Some-clause-replies : goal.returns-in-Some-clause-replies
returns-in-Some-clause-replies g c =
    let enough = rw c.in-Ok.is at c.crew-seat.ensures.enough in
    let put = c.put_crew-ends.ensures in
    RepliesWatched-crew c.what_one_entry_more_makes_known.ensures.mine _ c.args.desk.now _ _ _ _ _ _ _ _ _ _ _ c.in-Some.showing.note _ c.in-Ok.told _ c.in-Some.showing.behind (omega arith)
    (omega (arith, enough)) (rw c.in-Ok.is at c.crew-seat.ensures.calls) (rw (c.in-Ok.is, c.in-Some.is) at c.crew-seat.ensures.shown) c.learn-count.ensures.begins c.learn-count.ensures.told
    (rw c.learn-count.ensures.behind at put.shown) (rw c.learn-count.ensures.behind at put.not_shown)

pub returns-in_default-clause-replies : goal.returns-in_default-clause-replies
returns-in_default-clause-replies g c =
    let enough = rw c.in-Ok.is at c.crew-seat.ensures.enough in
    RepliesWatched-crew_unkept c.what_one_entry_more_makes_known.ensures.mine _ _ _ _ _ _ _ _ _ _ _ _ c.in-Ok.told (omega arith)
    (omega (arith, enough)) (rw c.in-Ok.is at c.crew-seat.ensures.calls) c.put_journal_fault.ensures.puts

pub returns-in-Err-clause-replies : goal.returns-in-Err-clause-replies
returns-in-Err-clause-replies g c =
    let few = rw c.in-Err.is at c.crew-seat.ensures.few in
    let same = rw c.in-Err.is at c.crew-seat.ensures.same in
    RepliesWatched-too_few _ _ _ c.in-Err.field-0.left _ _ _ _ _ _ _ _ _ (omega arith) (omega (arith, few.0, few.1)) (omega (arith, few.1)) same.0
    (rw (c.as_slice.ensures.value, c.write_too_few.ensures) at c.put_on.ensures.puts)
