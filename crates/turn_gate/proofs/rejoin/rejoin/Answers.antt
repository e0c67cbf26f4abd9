use Rattle.std.proofs.Common.{rules, ◌++◌, ap, ◌∙◌, map, Some}
use Rattle.std.proofs.lemmas.List.Elements.{All-pop}
use Rattle.turn_gate.specs.Told.{told, start_of}
use Rattle.turn_gate.specs.Seats.{gate_of, IsSeatOf, noted}
use Rattle.turn_gate.proofs.Keeps.{rejoins}
use Rattle.turn_gate.proofs.Closing.{noted-more}
use Rattle.turn_gate.proofs.rejoin.rejoin.Goals as goal

pub join_seat-requires : goal.join_seat-requires
join_seat-requires g c =
    let tell = told g.B.Booked.history g.B.Booked.room g.B.Booked.mark g.B.Lasting.sure in
    let key = c.args.tickets.now.shared.key in
    let k = start_of key.seats key.quota (tell key.book.value) in
    let inv = c.loop-next.invariant in
    let left = All-pop (IsSeatOf (gate_of c.args.tickets.now.shared.table_id k)) _ _ (Some c.in-Some.next) c.in-Some.ensures.items inv.seats in
    let me = c.into_parts-place.ensures.me in (
      search rules,
      c.into_parts-place.ensures.table ∙ left.1.0,
      ap (λ m. m.1) me,
      search rules,
      rejoins tell k _ _ _ _ inv.idle (ap (λ m. m.0.phase) me) inv.start,
    )

pub loop-next-preserved : goal.loop-next-preserved
loop-next-preserved g c =
    let tell = told g.B.Booked.history g.B.Booked.room g.B.Booked.mark g.B.Lasting.sure in
    let key = c.args.tickets.now.shared.key in
    let k = start_of key.seats key.quota (tell key.book.value) in
    let inv = c.loop-next.invariant in
    let left = All-pop (IsSeatOf (gate_of c.args.tickets.now.shared.table_id k)) _ _ (Some c.in-Some.next) c.in-Some.ensures.items inv.seats in
    let me = c.into_parts-place.ensures.me in
    let did = c.join_seat.ensures.2 in
    let front = map noted c.pop-in-loop-next.new.self.items in
    record {
      table = search rules;
      start = ap (λ m. m.0.start) did ∙ inv.start;
      idle = ap (λ m. m.0.phase) did ∙ inv.idle;
      bare = ap (λ m. m.1) did ∙ inv.bare;
      seats = left.0;
      notes = ap (λ m. front ++ m.0.notes) did ∙ (ap (λ m. front ++ (m.0.notes ++ c.loop-next.all.me.0.notes)) me ∙ noted-more _ _ c.in-Some.next _ _ c.in-Some.ensures.items inv.notes);
    }
