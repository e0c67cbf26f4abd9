use Rattle.std.proofs.Common.{◌-◌}
use Rattle.serve_desk.proofs.WatchAnswerLemmas.{RepliesWatched-end, RepliesWatched-fault, RepliesWatched-here, AnswersWatched-reply}
use Rattle.serve_desk.proofs.watch_answer.answer_watched.Goals as goal

pub returns-in-Look-clause-answers : goal.returns-in-Look-clause-answers
returns-in-Look-clause-answers g c =
    let replies = c.look.ensures.replies (c.args.desk.now.start.quota - c.args.seat.calls) c.args.seat in
    AnswersWatched-reply _ _ _ _ _ _ _ _ _ _ _ _ c.in-Look.ensures.hears (RepliesWatched-here _ _ _ _ _ _ _ _ _ _ _ _ c.requires.caller.looks.opening replies)

pub returns-in-End-clause-answers : goal.returns-in-End-clause-answers
returns-in-End-clause-answers g c = AnswersWatched-reply _ _ _ _ _ _ _ _ _ _ _ _ (rw c.in-End.is at c.in-Said.ensures.hears) (RepliesWatched-end _ _ _ _ _ _)

pub returns-in-LineFault-clause-answers : goal.returns-in-LineFault-clause-answers
returns-in-LineFault-clause-answers g c = AnswersWatched-reply _ _ _ _ _ _ _ _ _ _ _ _ (rw c.in-LineFault.is at c.in-Said.ensures.hears) (RepliesWatched-fault _ _ _ _ _ _)

pub returns-in_default-clause-answers : goal.returns-in_default-clause-answers
returns-in_default-clause-answers g c = AnswersWatched-reply _ _ _ _ _ _ _ _ _ _ _ _ c.in-Said.ensures.hears c.reply.ensures.replies
