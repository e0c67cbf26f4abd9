use Rattle.std.proofs.Common.{rules, ◌≡◌, sym, ap, ◌∙◌, arith}
use Rattle.turn_gate.specs.Told.{told, start_of}
use Rattle.turn_gate.specs.Steps.{note_of}
use Rattle.turn_gate.specs.Seats.{turned, known_in, sure_in}
use Rattle.turn_gate.proofs.Keeps.{gives_back}
use Rattle.turn_gate.proofs.Turns.{seated-itself, put-back, given}
use Rattle.turn_gate.proofs.gate.Gate.give.Goals as goal

pub fetch_add-served-requires : goal.fetch_add-served-requires
fetch_add-served-requires g c =
    let tell = told g.B.Booked.history g.B.Booked.room g.B.Booked.mark g.B.Lasting.sure in
    let key = c.self.inside.table.shared.key in
    let k = start_of key.seats key.quota (tell key.book.value) in
    let turn = c.args.turn in
    let may = c.requires.book in
    let start : turn.start ≡ k = c.requires.turn.1 ∙ sym (ap (λ v. v.start) c.self.view_is) in
    let known = known_in c.turn.inside.seat.me.0.notes in
    let sure = sure_in c.turn.inside.seat.me.0.notes in
    let was = c.turn.invariant.0 ∙ ap (λ t. (turned t.number known sure t.calls t.start t.place t.taken, _)) c.turn.view_is in
    let me = put-back turn known sure _ _ c.args.book was c.exchange-before.ensures.3 in (
      search rules,
      search rules,
      gives_back tell k _ _ _ turn.place turn.taken (note_of turn.number known sure) c.args.book may.entry
          (ap (λ m. m.0.phase) me) (ap (λ m. m.0.notes) me) (ap (λ m. m.1) me) may.more may.caller
          (may.opening ∙ ap (λ s. s.book.opening) start) (may.room ∙ ap (λ s. s.book.room) start) (may.wall ∙ ap (λ s. s.book.wall) start) may.sure c.self.invariant.4,
    )

pub invariant_of-result : goal.invariant_of-result
invariant_of-result g c =
    let tell = told g.B.Booked.history g.B.Booked.room g.B.Booked.mark g.B.Lasting.sure in
    let turn = c.args.turn in
    let known = known_in c.turn.inside.seat.me.0.notes in
    let sure = sure_in c.turn.inside.seat.me.0.notes in
    let was = c.turn.invariant.0 ∙ ap (λ t. (turned t.number known sure t.calls t.start t.place t.taken, _)) c.turn.view_is in
    let me = put-back turn known sure _ _ c.args.book was c.exchange-before.ensures.3 in
    let after = given tell turn known sure _ _ c.args.book me c.fetch_add-served.ensures.2 in
    let calls = ap (λ m. m.0.calls) after in
    let quota = ap (λ m. m.0.start.quota) after in
    let had = ap (λ t. t.calls) c.turn.view_is in
    let same = ap (λ t. t.start.quota) c.turn.view_is in
    let left = c.turn.invariant.1 in
    (seated-itself _ _ _ _ _ _ _ after (ap (λ t. t.number) c.turn.view_is), omega arith)

pub returns : goal.returns
returns g c =
    let tell = told g.B.Booked.history g.B.Booked.room g.B.Booked.mark g.B.Lasting.sure in
    let turn = c.args.turn in
    let known = known_in c.turn.inside.seat.me.0.notes in
    let sure = sure_in c.turn.inside.seat.me.0.notes in
    let was = c.turn.invariant.0 ∙ ap (λ t. (turned t.number known sure t.calls t.start t.place t.taken, _)) c.turn.view_is in
    let me = put-back turn known sure _ _ c.args.book was c.exchange-before.ensures.3 in
    let after = given tell turn known sure _ _ c.args.book me c.fetch_add-served.ensures.2 in record {
      table = c.fetch_add-served.ensures.0 ∙ (c.exchange-before.ensures.0 ∙ ap (λ t. t.table) c.turn.view_is);
      start = ap (λ m. m.0.start) after;
      number = ap (λ t. t.number) c.turn.view_is;
      calls = ap (λ m. m.0.calls) after;
      known = ap (λ m. known_in m.0.notes) after;
      sure = ap (λ m. sure_in m.0.notes) after;
    }
