-- What is kept of persons, beside what a history says of them.
use Rattle.std.specs.Prelude.{◌≡◌, ℕ, false, nat_eq, Option, None, Some, List}
use Rattle.std.specs.Option.{option_map, option_map_or}
use Rattle.desk_model.specs.histories.History.{History}
use Rattle.desk_model.specs.histories.Register.{person_of, quals_of, persons}
use Rattle.desk_model.specs.histories.Duty.{is_closed}
use Rattle.desk_model.specs.boards.Marks.{is_marked_off}
use Rattle.desk_model.specs.offers.Assigned.{assigned}
use Rattle.desk_model.specs.offers.Offers.{on_offer}
use Rattle.indexmap.specs.IndexMap.{get, keys}
use Rattle.desk_register.specs.declared.roster.Roster.{Roster}
use Rattle.desk_register.specs.declared.kept_person.KeptPerson.{KeptPerson}

-- the vacancy that is kept as assigned
abbrev pub assigned_in : Option KeptPerson → Option ℕ
assigned_in None = None
assigned_in (Some k) = k.assigned

-- the vacancy that is kept as on offer
abbrev pub offered_in : Option KeptPerson → Option ℕ
offered_in None = None
offered_in (Some k) = k.on_offer

-- what is kept under a person's number is what the history says of the person; nothing is kept of who isn't enrolled
pub record IsPerson (k : Option KeptPerson) (h : History) (p : ℕ) : Type 0 where
  pub person : option_map (λ x. x.person) k ≡ person_of h p
  pub quals : option_map_or (λ x. x.quals) k 0 ≡ quals_of h p
  pub marked_off : option_map_or (λ x. x.marked_off) k false ≡ is_marked_off h p
  pub closed : option_map_or (λ x. x.closed) k false ≡ is_closed h p
  pub assigned : assigned_in k ≡ assigned h p
  pub on_offer : offered_in k ≡ on_offer h p

-- that holds of every number, and the numbers that something is kept under are the persons, in the order in which they came
pub record ArePersons (under : ℕ → Option KeptPerson) (numbers : List ℕ) (h : History) : Type 0 where
  pub each : (p : ℕ) → IsPerson (under p) h p
  pub order : numbers ≡ persons h

-- what the roster keeps under a number, and under which it keeps something, in the order in which these came
abbrev pub person_under : Roster → ℕ → Option KeptPerson
person_under r k = get nat_eq r.kept k

abbrev pub person_numbers : Roster → List ℕ
person_numbers r = keys r.kept

-- the roster keeps that
abbrev pub KeepsPersons : Roster → History → Type 0
KeepsPersons r h = ArePersons (person_under r) (person_numbers r) h
