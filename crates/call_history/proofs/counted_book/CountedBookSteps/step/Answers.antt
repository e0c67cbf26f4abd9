use Rattle.std.proofs.Common.{◌≡◌, ◌∙◌, ap, sym, subst}
use Rattle.std.proofs.Props.{props}
use Rattle.std.proofs.Math.Logic.{∥∥₁_elim}
use Rattle.std.specs.Box.{box_value}
use Rattle.desk_model.specs.histories.History.{history_of}
use Rattle.call_history.proofs.BookLemmas.{stands-next}
use Rattle.call_history.proofs.counted_book.CountedBookSteps.step.Goals as goal

pub invariant_of-self-clause-stands : goal.invariant_of-self-clause-stands
invariant_of-self-clause-stands g c =
    let book = c.args.self.now in
    let core : c.deref_mut.result.now ≡ box_value book.core = c.deref_mut.ensures.value in
    let next = stands-next (g.C.DeskCore.stands (box_value book.core)) (g.C.DeskCore.stands c.step-entry.new.self) (history_of (g.C.DeskCore.opening (box_value book.core)) book.past)
    (g.C.DeskCore.opening c.step-entry.new.self) c.step-entry.result book.stands (λ h stands. c.step-entry.ensures.stands h (subst (λ x. g.C.DeskCore.stands x h) (sym core) stands))
    (sym (c.step-entry.ensures.opening ∙ ap g.C.DeskCore.opening core)) in
    subst (λ es. ∥ g.C.DeskCore.stands c.step-entry.new.self (history_of (g.C.DeskCore.opening c.step-entry.new.self) es) ∥₁) (sym c.add.ensures) next

pub returns-clause-answer : goal.returns-clause-answer
returns-clause-answer g c =
    let book = c.args.self.now in
    ∥∥₁_elim book.stands (hlevel props)
    (λ stands. c.step-entry.ensures.answer _ (subst (λ x. g.C.DeskCore.stands x (history_of (g.C.DeskCore.opening (box_value book.core)) book.past)) (sym c.deref_mut.ensures.value) stands))
