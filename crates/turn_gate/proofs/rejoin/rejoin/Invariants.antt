use Rattle.std.proofs.Common.{◌≡◌, ◌++◌, [], map}
use Rattle.std.specs.List.{All}
use Rattle.turn_gate.specs.declared.phase.Phase.TheVariants.{Idle}
use Rattle.turn_gate.specs.Told.{told, start_of}
use Rattle.turn_gate.specs.Seats.{gate_of, IsSeatOf, noted}
use Rattle.turn_gate.proofs.rejoin.rejoin.Given as goal

abbrev pub invariant-loop-next : goal.invariant-loop-next
invariant-loop-next g l =
    let key = l.tickets.shared.key in
    let k = start_of key.seats key.quota (told g.B.Booked.history g.B.Booked.room g.B.Booked.mark g.B.Lasting.sure key.book.value) in record {
      table : l.all.table_id ≡ l.tickets.shared.table_id;
      start : l.all.me.0.start ≡ k;
      idle : l.all.me.0.phase ≡ Idle;
      bare : l.all.me.1 ≡ [];
      seats : All (IsSeatOf (gate_of l.tickets.shared.table_id k)) l.seats.items;
      notes : map noted l.seats.items ++ l.all.me.0.notes ≡ map noted l.fn.seats.items;
    }

abbrev pub decreases-loop-next : goal.decreases-loop-next
decreases-loop-next g l = goal.left-loop-next g l
