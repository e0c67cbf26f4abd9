use Rattle.desk_shared.proofs.CrewLemmas.{Calls-is, Calls-stated}
use Rattle.desk_shared.proofs.shown_desk.ShownDesk.called.Goals as goal

pub returns-clause-call : goal.returns-clause-call
returns-clause-call g c =
    Calls-is c.args.self.now.start.book.opening c.args.seat c.call-seat.result.seat c.args.stated c.in-Ok.receipt (rw c.in-Ok.is at c.call-seat.ensures.receipt)

pub returns-clause-stated : goal.returns-clause-stated
returns-clause-stated g c =
    Calls-stated c.args.self.now.start.book.opening c.args.seat c.call-seat.result.seat c.args.stated c.in-Ok.receipt (rw c.in-Ok.is at c.call-seat.ensures.receipt)
