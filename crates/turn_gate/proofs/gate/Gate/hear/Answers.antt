use Rattle.std.proofs.Common.{rules, ap}
use Rattle.turn_gate.specs.Told.{told, start_of}
use Rattle.turn_gate.proofs.Keeps.{hears_it}
use Rattle.turn_gate.proofs.gate.Gate.hear.Goals as goal

pub load-requires : goal.load-requires
load-requires g c =
    let tell = told g.B.Booked.history g.B.Booked.room g.B.Booked.mark g.B.Lasting.sure in
    let key = c.self.inside.table.shared.key in
    let k = start_of key.seats key.quota (tell key.book.value) in
    (search rules, search rules, hears_it tell k _ _ _ (ap (λ m. m.0.phase) c.seat.invariant.0))
