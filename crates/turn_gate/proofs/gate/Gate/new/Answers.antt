use Rattle.std.proofs.Common.{rules, ◌≡◌, ◌∷◌, [], length, sym, ap, ◌∙◌, subst, Some}
use Rattle.turn_gate.specs.Told.{told, start_of}
use Rattle.turn_gate.specs.Steps.{first_view}
use Rattle.turn_gate.specs.Gate.{Gated}
use Rattle.atomic_table.specs.Table.{opening}
use Rattle.std.proofs.lemmas.List.Elements.{All-same}
use Rattle.turn_gate.specs.Seats.{IsSeatOf, gate_of, new_seats}
use Rattle.turn_gate.proofs.Dealing.{all-new}
use Rattle.turn_gate.proofs.Keeps.{begins}
use Rattle.turn_gate.proofs.gate.Gate.new.Goals as goal

pub new-requires : goal.new-requires
new-requires g c =
    let tell = told g.B.Booked.history g.B.Booked.room g.B.Booked.mark g.B.Lasting.sure in
    let k = start_of c.args.seats c.args.quota (tell c.of.result.value) in
    let items : c.push.new.self.items ≡ Some c.args.book ∷ [] = search rules in
    let from = c.from-first.ensures ∙ (c.count.ensures ∙ ap (λ b. length (g.B.Booked.history b).entries) (sym c.of.ensures)) in
    subst (λ l. Gated tell k (opening (c.from-first.result ∷ c.from-first.result ∷ 0 ∷ []) l (first_view k))) (sym items)
    (begins tell k c.from-first.result c.args.book (ap tell (sym c.of.ensures)) from)

pub returns-in-Ok-new-clause-each : goal.returns-in-Ok-new-clause-each
returns-in-Ok-new-clause-each g c =
    let tell = told g.B.Booked.history g.B.Booked.room g.B.Booked.mark g.B.Lasting.sure in
    let shared = c.in-Ok-new.table.shared in
    let gate = gate_of shared.table_id (start_of shared.key.seats shared.key.quota (tell shared.key.book.value)) in
    let items : c.deal-made.result.items ≡ new_seats gate 1 c.args.seats = search rules in
    All-same (IsSeatOf gate) _ _ items (all-new gate 1 c.args.seats)
