use Rattle.std.proofs.Common.{◌≡◌, ◌≤◌, [], vec_capacity}
use Rattle.turn_gate.specs.Told.{told, start_of}
use Rattle.turn_gate.specs.Seats.{gate_of, new_seats}
use Rattle.turn_gate.proofs.Dealing.{left_view}
use Rattle.turn_gate.proofs.deal.deal.Given as goal

abbrev pub invariant-loop-i : goal.invariant-loop-i
invariant-loop-i g l =
    let k = start_of l.terms.seats l.terms.quota (told g.B.Booked.history g.B.Booked.room g.B.Booked.mark g.B.Lasting.sure l.terms.book.value) in record {
      table : l.all.table_id ≡ l.tickets.shared.table_id;
      me : l.all.me ≡ (left_view k l.i, []);
      made : l.made.items ≡ new_seats (gate_of l.tickets.shared.table_id k) 1 l.i;
      room : l.terms.seats ≤ vec_capacity l.made;
    }
