use Rattle.std.proofs.Common.{arith}
use Rattle.serve_desk.proofs.WatchAnswerLemmas.{RepliesWatched-too_many, RepliesWatched-too_long, RepliesWatched-no_memory, RepliesWatched-malformed}
use Rattle.serve_desk.proofs.watch_answer.reply.Goals as goal

pub returns-then-heard-eq-LINES_PER_CALLER-clause-replies : goal.returns-then-heard-eq-LINES_PER_CALLER-clause-replies
returns-then-heard-eq-LINES_PER_CALLER-clause-replies g c =
    RepliesWatched-too_many _ _ _ _ _ _ _ _ _ c.if-heard-eq-LINES_PER_CALLER.true c.requires.not_end c.requires.no_fault c.put_on-ends.ensures.puts

pub returns-in-TooLong-clause-replies : goal.returns-in-TooLong-clause-replies
returns-in-TooLong-clause-replies g c = RepliesWatched-too_long _ _ _ _ _ _ _ _ _ (omega arith) c.in-TooLong.is c.put_on.ensures.puts

pub returns-in-NoMemory-clause-replies : goal.returns-in-NoMemory-clause-replies
returns-in-NoMemory-clause-replies g c = RepliesWatched-no_memory _ _ _ _ _ _ _ _ _ (omega arith) c.in-NoMemory.is c.put_on-in-NoMemory.ensures.puts

pub returns-in-Malformed-clause-replies : goal.returns-in-Malformed-clause-replies
returns-in-Malformed-clause-replies g c =
    RepliesWatched-malformed _ _ _ _ _ _ _ _ _ _ (omega arith) c.in-Malformed.is (rw (c.as_slice.ensures.value, c.write_malformed.ensures) at c.put_on-in-Malformed.ensures.puts)
