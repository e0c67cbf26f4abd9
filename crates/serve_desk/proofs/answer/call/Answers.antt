use Rattle.std.proofs.Common.{arith}
use Rattle.serve_desk.proofs.AnswerLemmas.{Replies-called, Replies-spent}
use Rattle.serve_desk.proofs.answer.call.Goals as goal

pub returns-in-Ok-clause-replies : goal.returns-in-Ok-clause-replies
returns-in-Ok-clause-replies g c heard few =
    let fewer = rw c.in-Ok.is at c.call-seat.ensures.not_spent in
    Replies-called _ _ _ _ _ _ _ _ c.in-Ok.receipt _ few (omega (arith, fewer)) (rw c.in-Ok.is at c.call-seat.ensures.receipt) (rw c.write.ensures at c.put_on.ensures.puts)

pub returns-in-Err-clause-replies : goal.returns-in-Err-clause-replies
returns-in-Err-clause-replies g c heard few =
    let no_call = rw c.in-Err.is at c.call-seat.ensures.spent in
    Replies-spent _ _ _ _ _ _ _ _ _ few (omega (arith, no_call.1)) no_call.0 c.put_on-in-Err.ensures.puts
