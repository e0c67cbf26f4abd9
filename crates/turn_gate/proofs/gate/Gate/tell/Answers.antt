use Rattle.std.proofs.Common.{rules, ap, arith}
use Rattle.turn_gate.specs.Told.{told, start_of}
use Rattle.turn_gate.specs.Steps.{note_of}
use Rattle.turn_gate.specs.Seats.{known_in, sure_in}
use Rattle.turn_gate.proofs.Keeps.{tells_it}
use Rattle.turn_gate.proofs.gate.Gate.tell.Goals as goal

pub fetch_max-requires : goal.fetch_max-requires
fetch_max-requires g c =
    let tell = told g.B.Booked.history g.B.Booked.room g.B.Booked.mark g.B.Lasting.sure in
    let key = c.self.inside.table.shared.key in
    let k = start_of key.seats key.quota (tell key.book.value) in
    let seat = c.seat.inside in
    let note = note_of seat.number (known_in seat.place.me.0.notes) (sure_in seat.place.me.0.notes) in (
      search rules,
      search rules,
      tells_it tell k _ _ _ note c.from.result (ap (λ m. m.0.notes) c.seat.invariant.0) (omega (arith, c.from.ensures, c.requires.known, ap (λ s. s.sure) c.seat.view_is)),
    )
