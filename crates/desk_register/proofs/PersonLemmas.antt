-- What a command says of a person, beside what it makes of what is kept of them.
use Rattle.std.proofs.Common.{◌≡◌, ℕ, Bool, true, false, ◌||◌, nat_eq, Option, None, Some, is_some, refl, sym, ◌∙◌, arith}
use Rattle.std.proofs.lemmas.Bool.Decides.{nat_tests}
use Rattle.std.specs.Prelude.{unwrap_or, if◌then◌else◌}
use Rattle.std.specs.Option.{option_map, option_map_or, option_or}
use Rattle.desk_register.specs.Persons.{assigned_in}
use Rattle.desk_model.specs.declared.command.Cmd.{Cmd}
use Rattle.desk_model.specs.declared.command.Cmd.TheVariants as cmd
use Rattle.desk_model.specs.offers.Offers.{is_of}
use Rattle.desk_model.specs.histories.Register.{enrols, gives}
use Rattle.desk_model.specs.histories.Duty.{closes}
use Rattle.desk_model.specs.boards.Marks.{marks}
use Rattle.desk_model.specs.laws.Comes.{assigned_by}
use Rattle.desk_register.specs.Changes.{subject, changed}
use Rattle.desk_register.specs.declared.kept_person.KeptPerson.{KeptPerson}

pub same : (n : ℕ) → nat_eq n n ≡ true
same n = grind (arith, nat_tests)

pub same_number : (p q : ℕ) → nat_eq p q ≡ true → p ≡ q
same_number p q is = grind (arith, nat_tests, is)

-- what a command says of a person is what it makes of them
abbrev pub Tells : ℕ → Cmd → KeptPerson → KeptPerson → Type 0
Tells p c k later = (later.person ≡ k.person) × ((later.quals ≡ unwrap_or (gives p c) k.quals) × ((later.marked_off ≡ unwrap_or (marks p c) k.marked_off)
    × ((later.closed ≡ (k.closed || is_some (closes p c))) × (later.assigned ≡ assigned_by p c k.assigned))))

or_true : (b : Bool) → true ≡ (b || true)
or_true true = refl
or_true false = refl

pub or_false : (b : Bool) → b ≡ (b || false)
or_false true = refl
or_false false = refl

-- a person whom the command changes is told of
abbrev pub IsTold : KeptPerson → Cmd → Option ℕ → Type 0
IsTold k c None = Unit
IsTold k c (Some p) = Tells p c k (changed c k)

pub subject-told : (k : KeptPerson) (c : Cmd) → IsTold k c (subject c)
subject-told k (cmd.List p a) = rw (same p) (refl, (refl, (refl, (or_true k.closed, refl))))
subject-told k (cmd.MarkOff p) = rw (same p) (refl, (refl, (refl, (or_false k.closed, refl))))
subject-told k (cmd.MarkOn p) = rw (same p) (refl, (refl, (refl, (or_false k.closed, refl))))
subject-told k (cmd.Qualify p a) = rw (same p) (refl, (refl, (refl, (or_false k.closed, refl))))
subject-told k (cmd.Happened p a) = rw (same p) (refl, (refl, (refl, (or_true k.closed, refl))))
subject-told k (cmd.Accept a p) = rw (same p) (refl, (refl, (refl, (or_false k.closed, refl))))
subject-told k (cmd.NoAnswer a p) = rw (same p) (refl, (refl, (refl, (or_false k.closed, refl))))
subject-told k (cmd.Drop p) = rw (same p) (refl, (refl, (refl, (or_false k.closed, refl))))
subject-told k other = tt

-- the person whom a command enrols or changes
abbrev pub named : Cmd → Option ℕ
named (cmd.Enrol person craft home quals) = Some person
named other = subject other

-- what an annulment takes from whom the vacancy was assigned to
abbrev pub left_by : Cmd → Option ℕ → Option ℕ
left_by (cmd.Annul vac) was = if is_of vac was then None else was
left_by other was = was

-- a command says nothing of this person
abbrev pub SaysNothing : ℕ → Cmd → Type 0
SaysNothing p c = (enrols p c ≡ None) × ((gives p c ≡ None) × ((marks p c ≡ None) × ((closes p c ≡ None)
    × ((was : Option ℕ) → assigned_by p c was ≡ left_by c was))))

pub others-hear_nothing : (q : ℕ) (c : Cmd) → is_of q (named c) ≡ false → SaysNothing q c
others-hear_nothing q (cmd.Enrol p a b d) other = rw other (refl, (refl, (refl, (refl, λ was. refl))))
others-hear_nothing q (cmd.List p a) other = rw other (refl, (refl, (refl, (refl, λ was. refl))))
others-hear_nothing q (cmd.MarkOff p) other = rw other (refl, (refl, (refl, (refl, λ was. refl))))
others-hear_nothing q (cmd.MarkOn p) other = rw other (refl, (refl, (refl, (refl, λ was. refl))))
others-hear_nothing q (cmd.Qualify p a) other = rw other (refl, (refl, (refl, (refl, λ was. refl))))
others-hear_nothing q (cmd.Happened p a) other = rw other (refl, (refl, (refl, (refl, λ was. refl))))
others-hear_nothing q (cmd.Accept a p) other = rw other (refl, (refl, (refl, (refl, λ was. refl))))
others-hear_nothing q (cmd.NoAnswer a p) other = rw other (refl, (refl, (refl, (refl, λ was. refl))))
others-hear_nothing q (cmd.Drop p) other = rw other (refl, (refl, (refl, (refl, λ was. refl))))
others-hear_nothing q silent other = (refl, (refl, (refl, (refl, λ was. refl))))

pub option_or-none : {X : Type 0} (x : Option X) → x ≡ option_or x None
option_or-none None = refl
option_or-none (Some x) = refl

-- what is kept under a number goes on by a command as what is said of it does
pub record Follows (p : ℕ) (c : Cmd) (k later : Option KeptPerson) : Type 0 where
  pub person : option_map (λ x. x.person) later ≡ option_or (option_map (λ x. x.person) k) (enrols p c)
  pub quals : option_map_or (λ x. x.quals) later 0 ≡ unwrap_or (gives p c) (option_map_or (λ x. x.quals) k 0)
  pub marked_off : option_map_or (λ x. x.marked_off) later false ≡ unwrap_or (marks p c) (option_map_or (λ x. x.marked_off) k false)
  pub closed : option_map_or (λ x. x.closed) later false ≡ (option_map_or (λ x. x.closed) k false || is_some (closes p c))
  pub assigned : assigned_in later ≡ assigned_by p c (assigned_in k)

-- one of whom nothing is said stays, where what is assigned to them isn't annulled
pub other-follows : (p : ℕ) (c : Cmd) (k : Option KeptPerson) → is_of p (named c) ≡ false → left_by c (assigned_in k) ≡ assigned_in k → Follows p c k k
other-follows p c k other left = let says = others-hear_nothing p c other in record {
  person = rw says.0 (option_or-none _);
  quals = rw says.1.0 refl;
  marked_off = rw says.1.1.0 refl;
  closed = rw says.1.1.1.0 (or_false _);
  assigned = sym (says.1.1.1.1 (assigned_in k) ∙ left);
}
