use Rattle.std.proofs.Common.{List, [], ◌∷◌, ◌++◌, ap, sym, subst}
use mathlib.Core.List.{IsPrefix}
use Rattle.desk_model.specs.statements.Entry.{EntryValue}
use Rattle.desk_shared.proofs.FrontLemmas.{front-within, front-begins, legal-next, front-next}
use Rattle.desk_shared.proofs.shown_book.ShownBook.step.Goals as goal

pub add-requires-clause-within : goal.add-requires-clause-within
add-requires-clause-within g c = rw (c.count-place.ensures) (front-within _ _ c.self.invariant.1)

pub add-requires-clause-legal : goal.add-requires-clause-legal
add-requires-clause-legal g c = legal-next _ _ _ _ _ _ c.self.invariant.0 c.self.invariant.1 c.count-place.ensures c.in-Ok.ensures.history c.is_legal.ensures.legal

pub returns-clause-note : goal.returns-clause-note
returns-clause-note g c =
    let all = (g.B.Booked.history c.self.inside.book).entries ++ c.in-Ok.entry ∷ [] in
    let took = front-next _ _ _ c.add.new.self.added _ c.self.invariant.1 c.count-place.ensures c.add.ensures.added in
    let begins = front-begins c.add.new.self.queued _ all c.add.ensures.begins took in
    let told : IsPrefix c.add.result.note.entries all = subst (λ (es : List EntryValue). IsPrefix es all) (sym (ap (λ f. f.entries) c.add.ensures.note)) begins in
    subst (λ (es : List EntryValue). IsPrefix c.add.result.note.entries es) (sym (ap (λ h. h.entries) c.in-Ok.ensures.history)) told
