use Rattle.std.proofs.Common.{◌≡◌, ◌∙◌, ◌+◌, List, [], ◌∷◌, length, ap, sym, subst, arith, length-append}
use Rattle.std.proofs.lemmas.Bool.{OnTrue_at, OnTrue_from}
use mathlib.Core.List.{IsPrefix}
use Rattle.board_window.specs.declared.wall_name.WallName.{WallName}
use Rattle.desk_model.specs.histories.History.{History}
use Rattle.desk_model.specs.histories.Legal.{IsLegal}
use Rattle.desk_model.specs.statements.Entry.{EntryValue}
use Rattle.turn_gate.specs.declared.wall.Wall.{Wall}
use Rattle.desk_shared.specs.Calls.{Calls}
use Rattle.desk_shared.specs.Kept.{KnowsOnlySure}
use Rattle.desk_shared.specs.Shown.{mark_of}
use Rattle.desk_shared.proofs.CallLemmas.{MayGive-next, Calls-gave, Calls-sure, Calls-knows}
use Rattle.desk_shared.proofs.ShownLemmas.{told-some, told-shown}
use Rattle.desk_shared.proofs.shown_desk.ShownDesk.call.Goals as goal

pub give-seat-requires-clause-book : goal.give-seat-requires-clause-book
give-seat-requires-clause-book g c =
    let told = c.step-entry.ensures in
    let kept = c.keep-is_kept.ensures in
    let e = c.step-entry.result.0 in
    let before = c.in-Ok.book in
    let later = c.keep-is_kept.new.self in
    let marked : WallName → Wall = λ name. record { mark = mark_of name } in
    let history = kept.history ∙ told.history in
    let room : length later.history.entries + later.left ≡ length before.history.entries + before.left =
    omega (arith, ap (λ h. length h.entries) history, length-append before.history.entries (e ∷ []), told.left, kept.left) in
    MayGive-next c.args.seat c.in-Ok.turn _ _ c.seat_no.result c.args.stated e c.in-Ok.ensures.took c.seat_no.ensures told.answer history room (ap marked (kept.wall ∙ told.wall))
    (omega (arith, told.sure, kept.no_fewer))

pub settle-seat-requires-clause-sure : goal.settle-seat-requires-clause-sure
settle-seat-requires-clause-sure g c =
    OnTrue_from c.keep-is_kept.result _ (λ is. omega (
      arith,
      c.give-seat.ensures.sure,
      OnTrue_at is c.keep-is_kept.ensures.sure,
      ap (λ (h : History). length h.entries) (c.keep-is_kept.ensures.history ∙ c.step-entry.ensures.history),
      length-append c.in-Ok.book.history.entries (c.step-entry.result.0 ∷ []),
      c.in-Ok.ensures.took.place,
      c.place-place.ensures,
    ))

pub returns-after-is_slow-clause-receipt : goal.returns-after-is_slow-clause-receipt
returns-after-is_slow-clause-receipt g c =
    let history = c.keep-is_kept.ensures.history in
    let legal = subst IsLegal (sym history) c.is_legal.ensures.legal in
    let gave = subst (λ k. Calls k.book.opening c.args.seat c.give-seat.result c.args.stated (record { place = c.place-place.result; entry = c.step-entry.result.0 })) (c.requires.1)
    (Calls-gave c.what_one_entry_more_makes_known.ensures.mine c.what_one_entry_more_makes_known.ensures.begins c.args.seat c.give-seat.result c.in-Ok.turn _ _ c.seat_no.result c.place-place.result c.args.stated
    c.step-entry.result.0 c.in-Ok.ensures.took c.give-seat.ensures c.seat_no.ensures c.place-place.ensures c.step-entry.ensures.answer (history ∙ c.step-entry.ensures.history) legal) in
    Calls-sure _ c.args.seat c.give-seat.result c.settle-seat.result.0 c.args.stated _ gave c.settle-seat.ensures.same

pub returns-after-is_slow-clause-shown : goal.returns-after-is_slow-clause-shown
returns-after-is_slow-clause-shown g c =
    let told = c.step-entry.ensures in
    let of_gate = c.in-Ok.ensures.took.of_gate in
    let showing = c.step-entry.result.1 in
    let known : c.step-entry.new.self.history.entries ≡ c.settle-seat.result.0.known =
    sym (ap (λ s. s.known) c.settle-seat.ensures.same ∙ c.give-seat.ensures.known ∙ ap (λ (h : History). h.entries) c.keep-is_kept.ensures.history) in
    told-shown c.if_kept.result showing c.settle-seat.result.1 c.args.self.now c.settle-seat.result.0.known c.if_kept.ensures.some (record {
      wall = record {
        mark = sym (ap (λ w. w.mark) (of_gate.wall ∙ ap (λ k. k.book.wall) c.requires.1)) ∙ ap mark_of (sym told.note_wall);
        opening = ap (λ w. w.opening) (told.note_wall ∙ sym told.wall) ∙ c.is_legal.ensures.opening ∙ ap (λ (h : History). h.opening) told.history ∙ of_gate.opening ∙ ap (λ k. k.book.opening) c.requires.1;
      };
      begins = subst (λ (es : List EntryValue). IsPrefix showing.note.entries es) known told.note;
      lacks = told.behind ∙ ap length known;
    })

pub returns-after-is_slow-clause-sure : goal.returns-after-is_slow-clause-sure
returns-after-is_slow-clause-sure g c =
    let receipt = returns-after-is_slow-clause-receipt g c in
    told-some c.if_kept.result c.step-entry.result.1 c.settle-seat.result.1 (λ showing. KnowsOnlySure c.settle-seat.result.0) c.if_kept.ensures.some
    (OnTrue_from c.settle-seat.result.1 _ (λ is. Calls-knows _ c.args.seat c.settle-seat.result.0 c.args.stated _ receipt (OnTrue_at is c.settle-seat.ensures.sure)))
