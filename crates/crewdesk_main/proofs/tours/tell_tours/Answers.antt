use Rattle.std.proofs.Common.{ap, arith}
use Rattle.day_replay.specs.Ends.{WritesOrFails, writes}
use Rattle.crewdesk_main.proofs.TourLemmas.{TellsLine-told}
use Rattle.crewdesk_main.proofs.tours.tell_tours.Goals as goal

pub returns-clause-unreadable : goal.returns-clause-unreadable
returns-clause-unreadable g c = λ ends.
    TellsLine-told c.in-Err-read_tours.verdict c.tell.result _ _ c.in-Ok.text.items c.deref.result.now
    (WritesOrFails (g.K.Sink.held c.args.sink.now) (g.K.Sink.held c.tell.new.sink) (g.K.Sink.faults c.args.sink.now) (g.K.Sink.faults c.tell.new.sink))
    c.in-Ok.ensures.whole (omega (arith, c.in-Ok.ensures.bounded, c.in-Ok.text.ok.0)) c.in-Ok.ensures.few c.deref.ensures.value
    (rw (c.in-Err-read_tours.is) at c.read_tours.ensures.unread) c.tell.ensures.only ends (c.tell.ensures.told (ap writes ends))
