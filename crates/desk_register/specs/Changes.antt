-- What an accepted command makes of what is kept.
use Rattle.std.specs.Prelude.{◌≡◌, ◌<◌, length, ℕ, true, false, nat_eq, Option, None, Some, if◌then◌else◌, List}
use Rattle.std.specs.Option.{option_map}
use Rattle.qualifications.specs.declared.craft.Craft.{Craft}
use Rattle.desk_model.specs.declared.command.Cmd.{Cmd}
use Rattle.desk_model.specs.declared.command.Cmd.TheVariants as cmd
use Rattle.desk_model.specs.offers.Assigned.{reports}
use Rattle.desk_model.specs.declared.limits.TheConstants.{PERSON_LIMIT}
use Rattle.desk_model.specs.declared.vac_state.VacState.{VacState}
use Rattle.desk_model.specs.declared.vac_state.VacState.TheVariants as state
use Rattle.desk_model.specs.histories.History.{History}
use Rattle.desk_model.specs.offers.States.{state_of}
use Rattle.desk_register.specs.declared.kept_person.KeptPerson.{KeptPerson}

-- the enrolled person whom a command changes
abbrev pub subject : Cmd → Option ℕ
subject (cmd.List person board) = Some person
subject (cmd.MarkOff person) = Some person
subject (cmd.MarkOn person) = Some person
subject (cmd.Qualify person quals) = Some person
subject (cmd.Happened person event) = Some person
subject (cmd.Accept vac person) = Some person
subject (cmd.NoAnswer vac person) = Some person
subject (cmd.Drop person) = Some person
subject other = None

-- what is kept of who is enrolled
abbrev pub enrolled : Craft → List ℕ → ℕ → KeptPerson
enrolled craft home quals = record {
  person = record { craft = craft; home = home };
  quals = quals;
  marked_off = false;
  closed = false;
  assigned = None;
  on_offer = None;
}

-- what a command makes of the enrolled person whom it changes
abbrev pub changed : Cmd → KeptPerson → KeptPerson
changed (cmd.List person board) k = record k { closed = true }
changed (cmd.MarkOff person) k = record k { marked_off = true }
changed (cmd.MarkOn person) k = record k { marked_off = false }
changed (cmd.Qualify person quals) k = record k { quals = quals }
changed (cmd.Happened person event) k = record k { closed = true; assigned = if reports event then None else k.assigned }
changed (cmd.Accept vac person) k = record k { assigned = Some vac }
changed (cmd.NoAnswer vac person) k = record k { marked_off = true }
changed (cmd.Drop person) k = record k { marked_off = true; assigned = None }
changed other k = k

-- what is kept, once no vacancy is assigned
abbrev pub freed : KeptPerson → KeptPerson
freed k = record k { assigned = None }

-- what is kept, once this is on offer to the person
abbrev pub with_offer : Option ℕ → KeptPerson → KeptPerson
with_offer vac k = record k { on_offer = vac }

-- what is kept under a number, where it is changed under this one
abbrev pub put_under : Option ℕ → (KeptPerson → KeptPerson) → (ℕ → Option KeptPerson) → ℕ → Option KeptPerson
put_under None change under q = under q
put_under (Some p) change under q = if nat_eq p q then option_map change (under q) else under q

-- and where somebody is enrolled
abbrev pub put_enrolled : Cmd → (ℕ → Option KeptPerson) → ℕ → Option KeptPerson
put_enrolled (cmd.Enrol person craft home quals) under q = if nat_eq person q then Some (enrolled craft home quals) else under q
put_enrolled other under q = under q

-- who is to be enrolled is new, and there is room
abbrev pub CanEnrol : Option ℕ → (ℕ → Option KeptPerson) → List ℕ → Type 0
CanEnrol None under numbers = Unit
CanEnrol (Some p) under numbers = (under p ≡ None) × (length numbers < PERSON_LIMIT)

-- to whom the vacancy is assigned that a command annuls
abbrev pub taker : VacState → Option ℕ
taker (state.Taken p) = Some p
taker other = None

abbrev pub loser : History → Cmd → Option ℕ
loser h (cmd.Annul vac) = taker (state_of h vac)
loser h other = None

-- to whom a vacancy is on offer that stands so
abbrev pub asked : VacState → Option ℕ
asked (state.OnOffer p) = Some p
asked other = None

-- whose open offer a command settles that is done
abbrev pub offeree : History → Cmd → Option ℕ
offeree h (cmd.Accept vac person) = Some person
offeree h (cmd.Decline vac person) = Some person
offeree h (cmd.NoAnswer vac person) = Some person
offeree h (cmd.Withdraw vac person) = Some person
offeree h (cmd.Annul vac) = asked (state_of h vac)
offeree h other = None
