-- What is kept of persons, after a command that was done.
use Rattle.std.proofs.Common.{◌≡◌, ℕ, Bool, true, false, nat_eq, List, Option, None, Some, is_none, refl, sym, ap, ◌∙◌, subst}
use Rattle.std.proofs.lemmas.Bool.{false≢true}
use Rattle.std.specs.Prelude.{if◌then◌else◌}
use Rattle.std.specs.Option.{option_map}
use Rattle.desk_model.specs.declared.command.Cmd.{Cmd}
use Rattle.desk_model.specs.declared.command.Cmd.TheVariants as cmd
use Rattle.qualifications.specs.declared.craft.Craft.{Craft}
use Rattle.desk_model.specs.histories.Register.{enrols_any}
use Rattle.desk_model.specs.offers.Offers.{is_of}
use Rattle.desk_register.specs.Changes.{subject, changed, freed, put_under, put_enrolled, enrolled, CanEnrol}
use Rattle.desk_register.specs.Persons.{assigned_in}
use Rattle.desk_register.specs.declared.kept_person.KeptPerson.{KeptPerson}
use Rattle.desk_register.proofs.PersonLemmas.{named, left_by, Follows, other-follows, same_number, or_false}
use Rattle.desk_register.proofs.AgreeLemmas.{subject-follows, enrolled-follows}

-- what holds of a number, where there is one
abbrev pub OfNumber : (ℕ → Type 0) → Option ℕ → Type 0
OfNumber Holds None = Unit
OfNumber Holds (Some p) = Holds p

subject-case : (q p : ℕ) (c : Cmd) (under : ℕ → Option KeptPerson) → subject c ≡ Some p → named c ≡ Some p
    → ((was : Option ℕ) → left_by c was ≡ was) → is_none (under p) ≡ false → Follows q c (under q) (if nat_eq p q then option_map (changed c) (under q) else under q)
subject-case q p c under is names left known = go (nat_eq p q) refl
  where
    some : (k : Option KeptPerson) → is_none k ≡ false → Follows p c k (option_map (changed c) k)
    some None known = absurd (false≢true (sym known))
    some (Some k) known = subject-follows p c k is

    go : (here : Bool) → nat_eq p q ≡ here → Follows q c (under q) (if here then option_map (changed c) (under q) else under q)
    go true here = subst (λ x. Follows x c (under x) (option_map (changed c) (under x))) (same_number p q here) (some (under p) known)
    go false here = other-follows q c (under q) (ap (is_of q) names ∙ here) (left (assigned_in (under q)))

enrol-case : (q p : ℕ) (craft : Craft) (home : List ℕ) (able : ℕ) (under : ℕ → Option KeptPerson) → under p ≡ None
    → Follows q (cmd.Enrol p craft home able) (under q) (put_enrolled (cmd.Enrol p craft home able) under q)
enrol-case q p craft home able under new = go (nat_eq p q) refl
  where
    go : (here : Bool) → nat_eq p q ≡ here → Follows q (cmd.Enrol p craft home able) (under q) (if here then Some (enrolled craft home able) else under q)
    go true here = subst (λ x. Follows x (cmd.Enrol p craft home able) (under x) (Some (enrolled craft home able))) (same_number p q here) (rw new (enrolled-follows p craft home able))
    go false here = other-follows q (cmd.Enrol p craft home able) (under q) here refl

-- whom the annulment takes it from is who has it
annul-case : (q v : ℕ) (lost : Option ℕ) (under : ℕ → Option KeptPerson) → ((p : ℕ) → is_of p lost ≡ is_of v (assigned_in (under p)))
    → Follows q (cmd.Annul v) (under q) (put_under lost freed under q)
annul-case q v None under whose = other-follows q (cmd.Annul v) (under q) refl (rw (sym (whose q)) refl)
annul-case q v (Some p) under whose = go (nat_eq p q) refl (whose q)
  where
    had : (k : Option KeptPerson) → true ≡ is_of v (assigned_in k) → Follows q (cmd.Annul v) k (option_map freed k)
    had None theirs = absurd (false≢true (sym theirs))
    had (Some k) theirs = record {
      person = refl;
      quals = refl;
      marked_off = refl;
      closed = or_false k.closed;
      assigned = rw (sym theirs) refl;
    }

    go : (here : Bool) → nat_eq p q ≡ here → nat_eq p q ≡ is_of v (assigned_in (under q)) → Follows q (cmd.Annul v) (under q) (if here then option_map freed (under q) else under q)
    go true here theirs = had (under q) (sym here ∙ theirs)
    go false here theirs = other-follows q (cmd.Annul v) (under q) refl (rw (sym theirs, here) refl)

-- whom the vacancy was assigned to that a command annuls, by what is kept; no other command takes one so
abbrev pub IsLost : Cmd → Option ℕ → (ℕ → Option KeptPerson) → Type 0
IsLost (cmd.Annul v) lost under = (p : ℕ) → is_of p lost ≡ is_of v (assigned_in (under p))
IsLost other lost under = lost ≡ None

pub changes-follow : (c : Cmd) (lost : Option ℕ) (under : ℕ → Option KeptPerson) (numbers : List ℕ) (q : ℕ)
    → CanEnrol (enrols_any c) under numbers → OfNumber (λ p. is_none (under p) ≡ false) (subject c) → IsLost c lost under
    → Follows q c (under q) (put_under (subject c) (changed c) (put_under lost freed (put_enrolled c under)) q)
changes-follow (cmd.List p a) lost under numbers q new known whose = rw whose (subject-case q p (cmd.List p a) under refl refl (λ was. refl) known)
changes-follow (cmd.MarkOff p) lost under numbers q new known whose = rw whose (subject-case q p (cmd.MarkOff p) under refl refl (λ was. refl) known)
changes-follow (cmd.MarkOn p) lost under numbers q new known whose = rw whose (subject-case q p (cmd.MarkOn p) under refl refl (λ was. refl) known)
changes-follow (cmd.Qualify p a) lost under numbers q new known whose = rw whose (subject-case q p (cmd.Qualify p a) under refl refl (λ was. refl) known)
changes-follow (cmd.Happened p a) lost under numbers q new known whose = rw whose (subject-case q p (cmd.Happened p a) under refl refl (λ was. refl) known)
changes-follow (cmd.Accept a p) lost under numbers q new known whose = rw whose (subject-case q p (cmd.Accept a p) under refl refl (λ was. refl) known)
changes-follow (cmd.NoAnswer a p) lost under numbers q new known whose = rw whose (subject-case q p (cmd.NoAnswer a p) under refl refl (λ was. refl) known)
changes-follow (cmd.Drop p) lost under numbers q new known whose = rw whose (subject-case q p (cmd.Drop p) under refl refl (λ was. refl) known)
changes-follow (cmd.Enrol p a b d) lost under numbers q new known whose = rw whose (enrol-case q p a b d under new.0)
changes-follow (cmd.Annul v) lost under numbers q new known whose = annul-case q v lost under whose
changes-follow other lost under numbers q new known whose = rw whose (other-follows q other (under q) refl refl)
