use Rattle.std.proofs.lemmas.List.Elements.{All-push, All-same}
use Rattle.turn_gate.specs.Seats.{IsSeatOf}
use Rattle.shared_tests.proofs.desk_tests.put.Goals as goal

pub returns-in-Ok : goal.returns-in-Ok
returns-in-Ok c = All-same (IsSeatOf c.args.desk.now) _ _ c.in-Ok.ensures.items (All-push (IsSeatOf c.args.desk.now) c.args.seats.items c.args.seat c.requires.seats c.requires.seat)
