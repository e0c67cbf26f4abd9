-- The parts of a desk, and which of them a command may change.
use Rattle.std.specs.Prelude.{◌≡◌, ℕ, Bool, true, false, List}
use Rattle.desk_model.specs.declared.command.Cmd.{Cmd}
use Rattle.desk_model.specs.declared.command.Cmd.TheVariants as cmd
use Rattle.desk_model.specs.histories.History.{History}
use Rattle.desk_model.specs.histories.Register.{person_of, quals_of, board_of, vacancy_of, persons, boards, vacancies}
use Rattle.desk_model.specs.offers.Offers.{open_offer, on_offer}
use Rattle.desk_model.specs.boards.Boards.{is_on, order}
use Rattle.desk_model.specs.histories.Duty.{events, is_closed}
use Rattle.desk_model.specs.boards.Marks.{is_marked_off}
use Rattle.desk_model.specs.offers.Assigned.{assigned}
use Rattle.desk_model.specs.offers.States.{state_of}
use Rattle.desk_model.specs.offers.TurnedDown.{has_turned_down}
use Rattle.desk_model.specs.offers.Held.{hold_end}

-- who is enrolled; what they can do; whether they are marked off; what they did; whether their past is closed; which boards there are;
-- who is on them; in which order; which vacancies were made; how these stand; which are on offer; which are assigned; who has
-- turned which down; and until when declines would hold whom
pub data Part : Type 0 where
  Persons : Part
  Quals : Part
  Marks : Part
  Events : Part
  Pasts : Part
  Boards : Part
  Lists : Part
  Orders : Part
  Vacancies : Part
  States : Part
  Offers : Part
  Assignments : Part
  Refusals : Part
  Holds : Part

-- the part is as it was
abbrev pub Stays : Part → History → History → Type 0
Stays Persons h later = ((p : ℕ) → person_of later p ≡ person_of h p) × (persons later ≡ persons h)
Stays Quals h later = (p : ℕ) → quals_of later p ≡ quals_of h p
Stays Marks h later = (p : ℕ) → is_marked_off later p ≡ is_marked_off h p
Stays Events h later = (p : ℕ) → events later p ≡ events h p
Stays Pasts h later = (p : ℕ) → is_closed later p ≡ is_closed h p
Stays Boards h later = ((b : List ℕ) → board_of later b ≡ board_of h b) × (boards later ≡ boards h)
Stays Lists h later = (p : ℕ) (b : List ℕ) → is_on later p b ≡ is_on h p b
Stays Orders h later = (b : List ℕ) → order later b ≡ order h b
Stays Vacancies h later = ((v : ℕ) → vacancy_of later v ≡ vacancy_of h v) × (vacancies later ≡ vacancies h)
Stays States h later = (v : ℕ) → state_of later v ≡ state_of h v
Stays Offers h later = ((v : ℕ) → open_offer later v ≡ open_offer h v) × ((p : ℕ) → on_offer later p ≡ on_offer h p)
Stays Assignments h later = (p : ℕ) → assigned later p ≡ assigned h p
Stays Refusals h later = (v p : ℕ) → has_turned_down later v p ≡ has_turned_down h v p
Stays Holds h later = (codes : List (List ℕ)) (p : ℕ) → hold_end later codes p ≡ hold_end h codes p

-- the command may change the part
abbrev pub touches : Part → Cmd → Bool
touches Persons (cmd.Enrol person craft home quals) = true
touches Quals (cmd.Enrol person craft home quals) = true
touches Quals (cmd.Qualify person quals) = true
touches Marks (cmd.Enrol person craft home quals) = true
touches Marks (cmd.MarkOff person) = true
touches Marks (cmd.MarkOn person) = true
touches Marks (cmd.NoAnswer vac person) = true
touches Marks (cmd.Drop person) = true
touches Events (cmd.Past person event) = true
touches Events (cmd.Happened person event) = true
touches Pasts (cmd.List person board) = true
touches Pasts (cmd.Happened person event) = true
touches Boards (cmd.Board board extra place) = true
touches Lists (cmd.List person board) = true
touches Lists (cmd.Unlist person board) = true
touches Orders (cmd.List person board) = true
touches Orders (cmd.Unlist person board) = true
touches Orders (cmd.MarkOn person) = true
touches Orders (cmd.Decline vac person) = true
touches Orders (cmd.Happened person event) = true
touches Vacancies (cmd.Vacancy job) = true
touches States (cmd.Next vac) = true
touches States (cmd.Offer vac person) = true
touches States (cmd.Accept vac person) = true
touches States (cmd.Decline vac person) = true
touches States (cmd.NoAnswer vac person) = true
touches States (cmd.Withdraw vac person) = true
touches States (cmd.Annul vac) = true
touches States (cmd.Drop person) = true
touches States (cmd.Happened person event) = true
touches Offers (cmd.Next vac) = true
touches Offers (cmd.Offer vac person) = true
touches Offers (cmd.Accept vac person) = true
touches Offers (cmd.Decline vac person) = true
touches Offers (cmd.NoAnswer vac person) = true
touches Offers (cmd.Withdraw vac person) = true
touches Offers (cmd.Annul vac) = true
touches Assignments (cmd.Accept vac person) = true
touches Assignments (cmd.Drop person) = true
touches Assignments (cmd.Annul vac) = true
touches Assignments (cmd.Happened person event) = true
touches Refusals (cmd.Decline vac person) = true
touches Refusals (cmd.NoAnswer vac person) = true
touches Refusals (cmd.Drop person) = true
touches Holds (cmd.Decline vac person) = true
touches which other = false
