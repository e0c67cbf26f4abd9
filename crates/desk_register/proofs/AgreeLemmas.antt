-- What is kept of a person, after an entry.
use Rattle.std.proofs.Common.{◌≡◌, ℕ, ◌||◌, List, Option, None, Some, is_some, refl, sym, ap, ◌∙◌, subst}
use Rattle.std.specs.Prelude.{unwrap_or}
use Rattle.std.specs.Option.{option_or}
use Rattle.desk_model.specs.declared.command.Cmd.{Cmd}
use Rattle.desk_model.specs.declared.command.Cmd.TheVariants as cmd
use Rattle.qualifications.specs.declared.craft.Craft.{Craft}
use Rattle.desk_model.specs.statements.Entry.{EntryValue}
use Rattle.desk_model.specs.histories.History.{History, with_entry, said}
use Rattle.desk_model.specs.histories.Register.{enrols, gives, quals_of}
use Rattle.desk_model.specs.histories.Duty.{closes, is_closed}
use Rattle.desk_model.specs.boards.Marks.{marks, is_marked_off}
use Rattle.desk_model.specs.laws.Comes.{Comes, assigned_by, assigned_after}
use Rattle.desk_model.specs.offers.Assigned.{assigned}
use Rattle.desk_model.specs.offers.Offers.{on_offer}
use Rattle.desk_register.specs.Changes.{subject, changed, enrolled}
use Rattle.desk_register.specs.Done.{IsDone}
use Rattle.desk_register.specs.Persons.{offered_in, IsPerson}
use Rattle.desk_register.specs.declared.kept_person.KeptPerson.{KeptPerson}
use Rattle.desk_register.proofs.PersonLemmas.{same, Tells, IsTold, Follows, subject-told}

pub said-done : {X : Type 0} (f : Cmd → Option X) (e : EntryValue) (c : Cmd) → IsDone e c → said f e ≡ f c
said-done f e c is = rw (is.done, is.of) refl

assigned-done : (e : EntryValue) (c : Cmd) (p : ℕ) (was : Option ℕ) → IsDone e c → assigned_after p e was ≡ assigned_by p c was
assigned-done e c p was is = rw (is.done, is.of) refl

pub person-follows : (h : History) (e : EntryValue) (c : Cmd) (p : ℕ) (k later : Option KeptPerson) → Comes h e → IsDone e c
    → IsPerson k h p → Follows p c k later → offered_in later ≡ on_offer (with_entry h e) p → IsPerson later (with_entry h e) p
person-follows h e c p k later comes is agrees follows offers = record {
  person = follows.person ∙ ap (λ x. option_or x (enrols p c)) agrees.person ∙ ap (option_or _) (sym (said-done (enrols p) e c is)) ∙ sym (comes.person p);
  quals = follows.quals ∙ ap (unwrap_or (gives p c)) agrees.quals ∙ ap (λ x. unwrap_or x (quals_of h p)) (sym (said-done (gives p) e c is)) ∙ sym (comes.quals p);
  marked_off = follows.marked_off ∙ ap (unwrap_or (marks p c)) agrees.marked_off ∙ ap (λ x. unwrap_or x (is_marked_off h p)) (sym (said-done (marks p) e c is)) ∙ sym (comes.marked p);
  closed = follows.closed ∙ ap (λ x. x || is_some (closes p c)) agrees.closed ∙ ap (λ x. is_closed h p || is_some x) (sym (said-done (closes p) e c is)) ∙ sym (comes.closed p);
  assigned = follows.assigned ∙ ap (assigned_by p c) agrees.assigned ∙ sym (assigned-done e c p (assigned h p) is) ∙ sym (comes.assigned p);
  on_offer = offers;
}

-- whom the command changes
pub subject-follows : (p : ℕ) (c : Cmd) (k : KeptPerson) → subject c ≡ Some p → Follows p c (Some k) (Some (changed c k))
subject-follows p c k is = let told : Tells p c k (changed c k) = subst (IsTold k c) is (subject-told k c) in record {
  person = ap Some told.0;
  quals = told.1.0;
  marked_off = told.1.1.0;
  closed = told.1.1.1.0;
  assigned = told.1.1.1.1;
}

-- whom it enrols
pub enrolled-follows : (p : ℕ) (craft : Craft) (home : List ℕ) (able : ℕ) → Follows p (cmd.Enrol p craft home able) None (Some (enrolled craft home able))
enrolled-follows p craft home able = record {
  person = rw (same p) refl;
  quals = rw (same p) refl;
  marked_off = rw (same p) refl;
  closed = refl;
  assigned = refl;
}
