use Rattle.std.proofs.Common.{rules, ◌<◌, [], length, sym, ap, ◌∙◌, subst, arith}
use Rattle.turn_gate.specs.Told.{told, start_of}
use Rattle.turn_gate.specs.Steps.{kept, dealt}
use Rattle.turn_gate.proofs.Keeps.{deals}
use Rattle.turn_gate.proofs.Dealing.{length-new_seats, pushed, left-kept, left-dealt, left-some}
use Rattle.turn_gate.proofs.deal.deal.Goals as goal

pub split_seat-place-requires : goal.split_seat-place-requires
split_seat-place-requires g c =
    let tell = told g.B.Booked.history g.B.Booked.room g.B.Booked.mark g.B.Lasting.sure in
    let terms = c.args.terms.now in
    let k = start_of terms.seats terms.quota (tell terms.book.value) in
    let key = c.args.tickets.now.shared.key in
    let at = start_of key.seats key.quota (tell key.book.value) in
    let me = c.loop-i.invariant.me in
    let few : c.loop-i.i < terms.seats = search rules in (
      search rules,
      search rules,
      deals tell at _ _ (ap (λ m. m.0.phase) me) (ap (λ m. m.0.calls) me) (subst (λ m. 0 < length m.0.notes) (sym me) (left-some k c.loop-i.i few)),
    )

pub loop-i-preserved : goal.loop-i-preserved
loop-i-preserved g c =
    let tell = told g.B.Booked.history g.B.Booked.room g.B.Booked.mark g.B.Lasting.sure in
    let terms = c.args.terms.now in
    let k = start_of terms.seats terms.quota (tell terms.book.value) in
    let few : c.loop-i.i < terms.seats = search rules in
    let did = c.split_seat-place.ensures in
    let me = c.loop-i.invariant.me in
    let new = did.4 ∙ (ap (λ m. (dealt m.0, [])) me ∙ ap (λ v. (v, [])) (left-dealt k c.loop-i.i few)) in
    record {
      table = search rules;
      me = did.2 ∙ (ap (λ m. (kept m.0, m.1)) me ∙ ap (λ v. (v, [])) (left-kept k c.loop-i.i few));
      made = c.push_reserved.ensures.items ∙ pushed k c.args.tickets.now.shared.table_id _ c.loop-i.i _ _ c.loop-i.invariant.made (search rules) new;
      room = search rules;
    }

pub push_reserved-requires : goal.push_reserved-requires
push_reserved-requires g c =
    let long = ap length c.loop-i.invariant.made ∙ length-new_seats _ 1 c.loop-i.i in
    let room = c.loop-i.invariant.room in
    let few = c.loop-i-test.true in
    let items = c.loop-i.made.ok.0 in
    omega arith
