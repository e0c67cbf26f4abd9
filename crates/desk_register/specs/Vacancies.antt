-- What is kept of vacancies, beside what a history says of them.
use Rattle.std.specs.Prelude.{◌≡◌, ℕ, ◌<◌, Bool, true, false, nat_eq, Option, None, Some, if◌then◌else◌, List, length}
use Rattle.std.specs.Option.{option_map, option_map_or, option_and_then}
use Rattle.desk_register.specs.Among.{index_among}
use Rattle.indexmap.specs.IndexMap.{get, keys}
use Rattle.desk_model.specs.declared.limits.TheConstants.{VACANCY_LIMIT}
use Rattle.desk_model.specs.statements.Job.{JobValue}
use Rattle.desk_model.specs.declared.command.Cmd.{Cmd}
use Rattle.desk_model.specs.declared.command.Cmd.TheVariants as cmd
use Rattle.desk_model.specs.declared.vac_state.VacState.{VacState}
use Rattle.desk_model.specs.declared.vac_state.VacState.TheVariants as state
use Rattle.desk_model.specs.statements.Entry.{EntryValue}
use Rattle.desk_model.specs.histories.History.{History}
use Rattle.desk_model.specs.histories.Register.{vacancy_of, vacancies}
use Rattle.desk_model.specs.offers.Offers.{is_of, asks_for, offer_in}
use Rattle.desk_model.specs.offers.Assigned.{reports, assigned}
use Rattle.desk_model.specs.offers.States.{state_of}
use Rattle.desk_register.specs.declared.vacancies.Vacancies.{Vacancies}
use Rattle.desk_register.specs.declared.kept_vacancy.KeptVacancy.{KeptVacancy}

-- what is kept under a vacancy's number is what the history says of it; nothing is kept of one that was never made
pub record IsVacancy (k : Option KeptVacancy) (h : History) (v : ℕ) : Type 0 where
  pub job : option_map (λ x. x.job) k ≡ vacancy_of h v
  pub state : option_map_or (λ x. x.state) k state.Vacant ≡ state_of h v

-- that holds of every number, and the numbers that something is kept under are the vacancies, in the order in which they came
pub record AreVacancies (under : ℕ → Option KeptVacancy) (numbers : List ℕ) (h : History) : Type 0 where
  pub each : (v : ℕ) → IsVacancy (under v) h v
  pub order : numbers ≡ vacancies h

-- ---- what an accepted command makes of it

-- the vacancy whose state it changes, where this one is assigned to the person whom it names
abbrev pub target : Cmd → Option ℕ → Option ℕ
target (cmd.Accept vac person) had = Some vac
target (cmd.Decline vac person) had = Some vac
target (cmd.NoAnswer vac person) had = Some vac
target (cmd.Withdraw vac person) had = Some vac
target (cmd.Annul vac) had = Some vac
target (cmd.Drop person) had = had
target (cmd.Happened person event) had = if reports event then had else None
target other had = None

-- the state that it leaves it in
abbrev pub state_then : Cmd → VacState → VacState
state_then (cmd.Accept vac person) how = state.Taken person
state_then (cmd.Decline vac person) how = state.Vacant
state_then (cmd.NoAnswer vac person) how = state.Vacant
state_then (cmd.Withdraw vac person) how = state.Vacant
state_then (cmd.Annul vac) how = state.Annulled
state_then (cmd.Drop person) how = state.Vacant
state_then (cmd.Happened person event) how = state.Begun person
state_then other how = how

-- who turns it down by the command
abbrev pub turner : Cmd → Option ℕ
turner (cmd.Decline vac person) = Some person
turner (cmd.NoAnswer vac person) = Some person
turner (cmd.Drop person) = Some person
turner other = None

-- that is so of what is kept
pub record IsChanged (c : Cmd) (k later : KeptVacancy) : Type 0 where
  pub job : later.job ≡ k.job
  pub state : later.state ≡ state_then c k.state

-- ---- and under each number

-- what is kept of a vacancy that is made
pub record IsMade (job_is : JobValue) (k : KeptVacancy) : Type 0 where
  pub job : k.job ≡ job_is
  pub state : k.state ≡ state.Vacant

-- a vacancy that is to be made is new, and there is room
abbrev pub CanMake : Option ℕ → (ℕ → Option KeptVacancy) → List ℕ → Type 0
CanMake None under numbers = Unit
CanMake (Some v) under numbers = (under v ≡ None) × (length numbers < VACANCY_LIMIT)

-- a command that makes a vacancy puts it under its number, and any other leaves all as it was
abbrev pub Makes : Cmd → (ℕ → Option KeptVacancy) → (ℕ → Option KeptVacancy) → Type 0
Makes (cmd.Vacancy job) under later = (k : KeptVacancy) × (IsMade job k × ((v : ℕ) → later v ≡ (if nat_eq job.vac v then Some k else under v)))
Makes other under later = (v : ℕ) → later v ≡ under v

-- of a vacancy that was made so much is so, and nothing of another
abbrev pub BecomesBy : Cmd → Option KeptVacancy → Option KeptVacancy → Type 0
BecomesBy c None later = later ≡ None
BecomesBy c (Some k) later = (x : KeptVacancy) × ((later ≡ Some x) × IsChanged c k x)

abbrev pub ChangesAt : Bool → Cmd → Option KeptVacancy → Option KeptVacancy → Type 0
ChangesAt false c k later = later ≡ k
ChangesAt true c k later = BecomesBy c k later

-- the vacancy whose state a command changes is changed, and no other
abbrev pub Changes : Cmd → Option ℕ → (ℕ → Option KeptVacancy) → (ℕ → Option KeptVacancy) → Type 0
Changes c had under later = (v : ℕ) → ChangesAt (is_of v (target c had)) c (under v) (later v)

-- from whom a command may take what is assigned to them, and what that is
abbrev pub giver : Cmd → Option ℕ
giver (cmd.Drop person) = Some person
giver (cmd.Happened person event) = Some person
giver other = None

abbrev pub had_by : History → Cmd → Option ℕ
had_by h c = option_and_then (assigned h) (giver c)

-- the index of who turns a vacancy down by a command
abbrev pub turner_index : List ℕ → Cmd → Option ℕ
turner_index numbers c = option_and_then (index_among numbers) (turner c)

-- what is kept under a number, and under which something is, in the order in which these came
abbrev pub vacancy_under : Vacancies → ℕ → Option KeptVacancy
vacancy_under x k = get nat_eq x.kept k

abbrev pub vacancy_numbers : Vacancies → List ℕ
vacancy_numbers x = keys x.kept

-- the register of vacancies keeps what a history says
abbrev pub KeepsVacancies : Vacancies → History → Type 0
KeepsVacancies x h = AreVacancies (vacancy_under x) (vacancy_numbers x) h

-- ---- what an offer makes of it

-- the vacancy that an entry offers, and to whom
abbrev pub offered_vac : EntryValue → Option ℕ
offered_vac e = option_and_then (λ x. asks_for e.stated.cmd) (offer_in e.moment e.reply)

abbrev pub on_offer_to : ℕ → KeptVacancy → KeptVacancy
on_offer_to p k = record k { state = state.OnOffer p }

abbrev pub offered_person : EntryValue → Option ℕ
offered_person e = option_map (λ x. x.person) (offer_in e.moment e.reply)
