use Rattle.std.proofs.Common.{rules, ◌≡◌, ℕ, ◌≤◌, length, refl, sym, ap, ◌∙◌, subst, arith}
use Rattle.std.specs.List.{All}
use Rattle.std.specs.Option.{IsSome}
use Rattle.turn_gate.specs.declared.note.Note.{Note}
use lib.ListN.{get_elem?, length-map}
use mathlib.Core.Option.{some}
use Rattle.turn_gate.specs.Told.{told, start_of, IsBookOf}
use Rattle.turn_gate.specs.Notes.{IsNote}
use Rattle.turn_gate.specs.Seats.{noted}
use Rattle.turn_gate.specs.Turns.{Knows, IsLast}
use Rattle.turn_gate.proofs.Keeps.{finished}
use Rattle.turn_gate.proofs.Closing.{all-know, all-sure, found-book}
use Rattle.turn_gate.proofs.gate.Gate.close.Goals as goal

pub unwrap-requires : goal.unwrap-requires
unwrap-requires g c =
    let tell = told g.B.Booked.history g.B.Booked.room g.B.Booked.mark g.B.Lasting.sure in
    let key = c.self.inside.table.shared.key in
    let k = start_of key.seats key.quota (tell key.book.value) in
    let notes = ap length c.rejoin-all.ensures.notes ∙ length-map c.args.seats.items noted in
    let all : k.seats ≤ length c.rejoin-all.result.me.0.notes = (let enough = c.if-len-from.false in let len = c.len.ensures in let made = c.from.ensures in let seats = c.self.invariant.2 in let items = c.args.seats.ok.0 in omega arith) in
    let closed = finished tell k _ _ _ _ c.rejoin-all.ensures.idle all c.close_with-closed.ensures.values.2 in
    let found = found-book tell k _ _ c.take-slot.result closed c.take-slot.ensures.value in
    subst IsSome (sym found) refl

pub returns : goal.returns
returns g c =
    let tell = told g.B.Booked.history g.B.Booked.room g.B.Booked.mark g.B.Lasting.sure in
    let key = c.self.inside.table.shared.key in
    let k = start_of key.seats key.quota (tell key.book.value) in
    let start : k ≡ c.args.self.start = ap (λ v. v.start) c.self.view_is in
    let notes = ap length c.rejoin-all.ensures.notes ∙ length-map c.args.seats.items noted in
    let all : k.seats ≤ length c.rejoin-all.result.me.0.notes = (let enough = c.if-len-from.false in let len = c.len.ensures in let made = c.from.ensures in let seats = c.self.invariant.2 in let items = c.args.seats.ok.0 in omega arith) in
    let closed = finished tell k _ _ _ _ c.rejoin-all.ensures.idle all c.close_with-closed.ensures.values.2 in
    let found = found-book tell k _ _ c.take-slot.result closed c.take-slot.ensures.value in
    let same : closed.book ≡ c.unwrap.result = cc (found, c.unwrap.ensures) in
    record {
      book = subst (λ b. IsBookOf c.args.self.start (tell b)) same (subst (λ z. IsBookOf z (tell closed.book)) start closed.of_gate);
      known = subst (λ b. All (Knows (tell b).entries) c.args.seats.items) same (all-know k.seats _ c.args.seats.items (subst (λ l. (m : ℕ) (a : Note) → get_elem? l m ≡ some a → IsNote k.seats (tell closed.book) a) c.rejoin-all.ensures.notes closed.notes));
      sure = subst (λ b. All (λ seat. seat.sure ≤ (tell b).sure) c.args.seats.items) same (all-sure k.seats _ c.args.seats.items (subst (λ l. (m : ℕ) (a : Note) → get_elem? l m ≡ some a → IsNote k.seats (tell closed.book) a) c.rejoin-all.ensures.notes closed.notes));
      rule = subst (λ b. IsLast tell c.args.self.start b) same (subst (λ z. IsLast tell z closed.book) start closed.last);
      all = search rules;
      short = tt;
    }
