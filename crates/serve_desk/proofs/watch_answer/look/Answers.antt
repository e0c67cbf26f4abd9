use Rattle.std.proofs.Common.{arith}
use Rattle.serve_desk.proofs.WatchAnswerLemmas.{RepliesWatched-too_many_requests, RepliesWatched-no_look, RepliesWatched-look}
use Rattle.serve_desk.proofs.watch_answer.look.Goals as goal

pub returns-then-heard-eq-LINES_PER_CALLER-clause-replies : goal.returns-then-heard-eq-LINES_PER_CALLER-clause-replies
returns-then-heard-eq-LINES_PER_CALLER-clause-replies g c left seat = RepliesWatched-too_many_requests _ _ left _ _ _ seat _ _ tt c.if-heard-eq-LINES_PER_CALLER.true c.put_on.ensures.puts

pub returns-in-Some-clause-replies : goal.returns-in-Some-clause-replies
returns-in-Some-clause-replies g c left seat =
    RepliesWatched-look _ left _ _ _ _ c.in-Some.look.seen c.in-Some.look.what seat _ _ _ (omega arith) c.look.ensures.wall c.look.ensures.later c.in-Some.ensures.seen c.in-Some.ensures.what
    (rw (c.as_slice.ensures.value, c.write_look.ensures) at c.put_on-in-Some.ensures.puts)

pub returns-in-None-clause-replies : goal.returns-in-None-clause-replies
returns-in-None-clause-replies g c left seat = RepliesWatched-no_look _ _ left _ _ _ _ seat _ _ _ (omega arith) c.in-None.ensures.none c.put_on-in-None.ensures.puts
