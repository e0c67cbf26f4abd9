use Rattle.std.proofs.Common.{sym, subst, arith}
use Rattle.desk_model.specs.histories.History.{history_of, with_entry}
use Rattle.desk_model.specs.histories.Legal.{IsLegal, MayState}
use Rattle.plain_core.specs.Kept.{IsKept}
use Rattle.plain_core.specs.Room.{HasRoom}
use Rattle.plain_core.proofs.KeptLemmas.{known-next, kept-next}
use Rattle.plain_core.proofs.plain_core.PlainCoreDeskCore.answer.Goals as goal
use Rattle.plain_core.proofs.plain_core.PlainCoreDeskCore.answer.Goals.{After-push_reserved}

may : (c : After-push_reserved) → MayState c.args.caller c.args.stated.now
may c = record { caller_in = c.requires.caller; stated = c.next_entry-entry.ensures.stated }

pub invariant_of-self : goal.invariant_of-self
invariant_of-self c =
    let kept = c.args.self.now.kept in
    let legal = known-next kept.opening kept.entries.items c.next_entry-entry.result c.args.caller c.args.stated.now kept.legal (may (goal.at.invariant_of-self c).After-push_reserved) c.next_entry-entry.ensures.entry in
    (subst (λ es. ∥ IsLegal (history_of kept.opening es) ∥₁) (sym (rw c.to_entry.ensures at c.push_reserved.ensures.items)) legal, tt)

pub invariant_of-self-2 : goal.invariant_of-self-2
invariant_of-self-2 c = record {
  room = omega (arith, c.args.self.now.room, c.requires.room, c.push_reserved.ensures.len, c.push_reserved.ensures.capacity);
  working = subst (λ n. HasRoom n c.next_entry-entry.new.work) (sym c.push_reserved.ensures.capacity) c.next_entry-entry.ensures.suits;
}

pub returns-clause-stands : goal.returns-clause-stands
returns-clause-stands c h kept =
    let core = c.args.self.now.kept in
    subst (λ es. IsKept core.opening es (with_entry h c.next_entry-entry.result)) (sym (rw c.to_entry.ensures at c.push_reserved.ensures.items))
    (kept-next core.opening core.entries.items h c.next_entry-entry.result c.args.caller c.args.stated.now kept (may (goal.at.returns-clause-stands c).After-push_reserved) (c.next_entry-entry.ensures.entry h kept))
