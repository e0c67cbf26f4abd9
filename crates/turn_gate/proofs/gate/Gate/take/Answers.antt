use Rattle.std.proofs.Common.{rules, ◌≡◌, ◌<◌, ◌∷◌, length, refl, sym, ap, ◌∙◌, subst, Some, arith}
use Rattle.std.specs.Option.{IsSome}
use Rattle.atomic_table.specs.Table.{rest}
use Rattle.turn_gate.specs.Told.{told, start_of, IsNumber}
use Rattle.turn_gate.specs.Seats.{taken_in}
use Rattle.turn_gate.proofs.Keeps.{draws, looks}
use Rattle.turn_gate.proofs.Turns.{is-waiting, turned-itself, found-is, IsServed, served, taken-out, knows-taken, sure-taken, numbered-taken}
use Rattle.turn_gate.proofs.gate.Gate.take.Goals as goal

pub fetch_add-ticket-requires : goal.fetch_add-ticket-requires
fetch_add-ticket-requires g c =
    let tell = told g.B.Booked.history g.B.Booked.room g.B.Booked.mark g.B.Lasting.sure in
    let key = c.self.inside.table.shared.key in
    let k = start_of key.seats key.quota (tell key.book.value) in
    let start : c.args.seat.start ≡ k = c.requires.1 ∙ sym (ap (λ v. v.start) c.self.view_is) in
    let me = c.into_parts-seat.ensures.me in
    let few : c.into_parts-seat.result.0.me.0.calls < k.quota = (let calls = ap (λ m. m.0.calls) me in let quota = ap (λ s. s.quota) start in let left = c.left.ensures in let more = c.if-left-eq0.false in omega arith) in
    (search rules, search rules, draws tell k _ _ _ (ap (λ m. m.0.phase) me) (ap (λ m. length m.0.notes) me) few c.self.invariant.4)

pub load-serving-requires : goal.load-serving-requires
load-serving-requires g c =
    let tell = told g.B.Booked.history g.B.Booked.room g.B.Booked.mark g.B.Lasting.sure in
    let key = c.self.inside.table.shared.key in
    let k = start_of key.seats key.quota (tell key.book.value) in
    let start : c.args.seat.start ≡ k = c.requires.1 ∙ sym (ap (λ v. v.start) c.self.view_is) in
    let now = is-waiting c.args.seat c.fetch_add-ticket.result _ _ _ c.into_parts-seat.ensures.me c.fetch_add-ticket.ensures.2 c.loop.invariant.me in
    (search rules, search rules, looks tell k _ _ _ c.fetch_add-ticket.result (ap (λ m. m.0.phase) now) (ap (λ m. m.0.start) now ∙ start))

pub exchange-requires : goal.exchange-requires
exchange-requires g c =
    let tell = told g.B.Booked.history g.B.Booked.room g.B.Booked.mark g.B.Lasting.sure in
    let now = is-waiting c.args.seat c.fetch_add-ticket.result _ _ _ c.into_parts-seat.ensures.me c.fetch_add-ticket.ensures.2 c.loop.invariant.me in
    let took = served tell c.args.seat c.fetch_add-ticket.result _ _ _ now (c.load-serving.ensures.2.1 _ (ap (λ m. m.0.phase) now)) c.if-serving-ticket.true in
    (search rules, (Some took.0, took.1.carried ∙ ap (λ cs. (0, Some took.0) ∷ rest cs) (sym took.1.carried)))

pub unwrap-book-requires : goal.unwrap-book-requires
unwrap-book-requires g c =
    let tell = told g.B.Booked.history g.B.Booked.room g.B.Booked.mark g.B.Lasting.sure in
    let now = is-waiting c.args.seat c.fetch_add-ticket.result _ _ _ c.into_parts-seat.ensures.me c.fetch_add-ticket.ensures.2 c.loop.invariant.me in
    let took = served tell c.args.seat c.fetch_add-ticket.result _ _ _ now (c.load-serving.ensures.2.1 _ (ap (λ m. m.0.phase) now)) c.if-serving-ticket.true in
    let found = found-is _ c.exchange.result took.0 c.exchange.ensures.2 took.1.carried in
    subst IsSome (sym found) refl

pub invariant_of-turn : goal.invariant_of-turn
invariant_of-turn g c =
    let tell = told g.B.Booked.history g.B.Booked.room g.B.Booked.mark g.B.Lasting.sure in
    let now = is-waiting c.args.seat c.fetch_add-ticket.result _ _ _ c.into_parts-seat.ensures.me c.fetch_add-ticket.ensures.2 c.loop.invariant.me in
    let took = served tell c.args.seat c.fetch_add-ticket.result _ _ _ now (c.load-serving.ensures.2.1 _ (ap (λ m. m.0.phase) now)) c.if-serving-ticket.true in
    let out = taken-out tell c.args.seat c.fetch_add-ticket.result _ _ took.0 took.1 c.exchange.ensures.3 in
    let calls = ap (λ m. m.0.calls) out in
    let quota = ap (λ m. m.0.start.quota) out in
    let parts = c.into_parts-seat.ensures.left in
    let left = c.left.ensures in
    let more = c.if-left-eq0.false in
    (turned-itself _ _ _ _ _ _ _ _ _ _ out c.into_parts-seat.ensures.number, omega arith)

pub returns-then-serving-ticket-clause-took : goal.returns-then-serving-ticket-clause-took
returns-then-serving-ticket-clause-took g c =
    let tell = told g.B.Booked.history g.B.Booked.room g.B.Booked.mark g.B.Lasting.sure in
    let now = is-waiting c.args.seat c.fetch_add-ticket.result _ _ _ c.into_parts-seat.ensures.me c.fetch_add-ticket.ensures.2 c.loop.invariant.me in
    let took = served tell c.args.seat c.fetch_add-ticket.result _ _ _ now (c.load-serving.ensures.2.1 _ (ap (λ m. m.0.phase) now)) c.if-serving-ticket.true in
    let found = found-is _ c.exchange.result took.0 c.exchange.ensures.2 took.1.carried in
    let same : took.0 ≡ c.unwrap-book.result = cc (found, c.unwrap-book.ensures) in
    let mine = subst (IsServed tell c.args.seat c.fetch_add-ticket.result c.load-serving.new.seat.me) same took.1 in
    let out = taken-out tell c.args.seat c.fetch_add-ticket.result _ _ c.unwrap-book.result mine c.exchange.ensures.3 in
    let number = c.into_parts-seat.ensures.number in
    let named = subst (IsNumber c.args.seat.start.seats) (sym number) (numbered-taken tell c.args.seat c.fetch_add-ticket.result _ c.unwrap-book.result mine) in
    let seats = ap (λ s. s.seats) (c.requires.1 ∙ sym (ap (λ v. v.start) c.self.view_is)) in
    let few = c.self.invariant.2 in
    let callers = c.self.invariant.3 in
    record {
      table = search rules;
      start = ap (λ m. m.0.start) out;
      number = number;
      calls = ap (λ m. m.0.calls) out;
      taken = sym (ap (λ m. taken_in m.0) out);
      place = mine.taken.long;
      within = mine.taken.place;
      named = named;
      caller = omega arith;
      of_gate = mine.taken.of_gate;
      knows = knows-taken tell c.args.seat c.fetch_add-ticket.result _ c.unwrap-book.result mine;
      sure = sure-taken tell c.args.seat c.fetch_add-ticket.result _ c.unwrap-book.result mine;
    }

pub loop-preserved : goal.loop-preserved
loop-preserved g c =
    let now = is-waiting c.args.seat c.fetch_add-ticket.result _ _ _ c.into_parts-seat.ensures.me c.fetch_add-ticket.ensures.2 c.loop.invariant.me in
    let look = c.load-serving.ensures.2.1 _ (ap (λ m. m.0.phase) now) in record {
      table = search rules;
      seat = search rules;
      me = look.other c.if-serving-ticket.false ∙ c.loop.invariant.me;
    }
