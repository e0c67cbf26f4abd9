-- Some of what a command rests on that is done, and of what an offer rests on: who and what is there, and that there is room.
use Rattle.std.specs.Prelude.{◌≡◌, ℕ, ◌<◌, true, false, None, is_some, List, length, ⊤}
use Rattle.desk_model.specs.declared.limits.TheConstants.{PERSON_LIMIT, BOARD_LIMIT, MEMBER_LIMIT, VACANCY_LIMIT}
use Rattle.desk_model.specs.declared.command.Cmd.{Cmd}
use Rattle.desk_model.specs.declared.command.Cmd.TheVariants as cmd
use Rattle.desk_model.specs.histories.History.{History}
use Rattle.desk_model.specs.histories.Register.{person_of, board_of, vacancy_of, persons, boards, vacancies}
use Rattle.desk_model.specs.boards.Boards.{is_on, order}
use Rattle.desk_model.specs.offers.Offers.{open_offer, is_to, on_offer}
use Rattle.desk_model.specs.offers.Assigned.{assigned}

-- the person is enrolled; the code is a board; the vacancy was made
abbrev pub IsEnrolled : History → ℕ → Type 0
IsEnrolled h p = is_some (person_of h p) ≡ true

abbrev pub IsBoard : History → List ℕ → Type 0
IsBoard h b = is_some (board_of h b) ≡ true

abbrev pub IsMade : History → ℕ → Type 0
IsMade h v = is_some (vacancy_of h v) ≡ true

-- the number, or the code, is new, and there is room for one more
abbrev pub MayEnrol : History → ℕ → Type 0
MayEnrol h p = (person_of h p ≡ None) × (length (persons h) < PERSON_LIMIT)

abbrev pub MaySetUp : History → List ℕ → Type 0
MaySetUp h b = (board_of h b ≡ None) × (length (boards h) < BOARD_LIMIT)

abbrev pub MayMake : History → ℕ → Type 0
MayMake h v = (vacancy_of h v ≡ None) × (length (vacancies h) < VACANCY_LIMIT)

-- an enrolled person isn't on a board, on which there is room
pub record MayList (h : History) (p : ℕ) (b : List ℕ) : Type 0 where
  pub enrolled : IsEnrolled h p
  pub board : IsBoard h b
  pub off : is_on h p b ≡ false
  pub room : length (order h b) < MEMBER_LIMIT

-- an enrolled person is on a board
pub record IsListed (h : History) (p : ℕ) (b : List ℕ) : Type 0 where
  pub enrolled : IsEnrolled h p
  pub board : IsBoard h b
  pub on : is_on h p b ≡ true

-- a vacancy that was made is on offer to an enrolled person
pub record MaySettle (h : History) (v p : ℕ) : Type 0 where
  pub made : IsMade h v
  pub enrolled : IsEnrolled h p
  pub to : is_to p (open_offer h v) ≡ true

-- a vacancy is assigned to an enrolled person
pub record MayDrop (h : History) (p : ℕ) : Type 0 where
  pub enrolled : IsEnrolled h p
  pub has : is_some (assigned h p) ≡ true

-- that is so before a command that is done
abbrev pub RestsOn : History → Cmd → Type 0
RestsOn h (cmd.Enrol person craft home quals) = MayEnrol h person
RestsOn h (cmd.Board board extra place) = MaySetUp h board
RestsOn h (cmd.List person board) = MayList h person board
RestsOn h (cmd.Unlist person board) = IsListed h person board
RestsOn h (cmd.MarkOff person) = IsEnrolled h person
RestsOn h (cmd.MarkOn person) = IsEnrolled h person
RestsOn h (cmd.Qualify person quals) = IsEnrolled h person
RestsOn h (cmd.Past person event) = IsEnrolled h person
RestsOn h (cmd.Happened person event) = IsEnrolled h person
RestsOn h (cmd.Vacancy job) = MayMake h job.vac
RestsOn h (cmd.Accept vac person) = MaySettle h vac person
RestsOn h (cmd.Decline vac person) = MaySettle h vac person
RestsOn h (cmd.NoAnswer vac person) = MaySettle h vac person
RestsOn h (cmd.Withdraw vac person) = MaySettle h vac person
RestsOn h (cmd.Annul vac) = IsMade h vac
RestsOn h (cmd.Drop person) = MayDrop h person
RestsOn h other = ⊤

-- and this before an entry that offers a vacancy to a person from a board: neither has an open offer, and the person is on the board
pub record MayOffer (h : History) (v p : ℕ) (b : List ℕ) : Type 0 where
  pub made : IsMade h v
  pub closed : open_offer h v ≡ None
  pub free : on_offer h p ≡ None
  pub listed : IsListed h p b
