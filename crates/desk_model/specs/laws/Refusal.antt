-- What a refusal leaves as it was.
use Rattle.std.specs.Prelude.{◌≡◌, ℕ, Bool, ◌||◌, is_some, List}
use Rattle.desk_model.specs.declared.reply.Reply.{Reply}
use Rattle.desk_model.specs.declared.person.Person.{Person}
use Rattle.desk_model.specs.statements.Job.{JobValue}
use Rattle.desk_model.specs.histories.History.{History, is_done}
use Rattle.desk_model.specs.histories.Register.{person_of, quals_of, board_of, vacancy_of, persons, boards, vacancies}
use Rattle.desk_model.specs.boards.Boards.{is_on, order, chain}
use Rattle.desk_model.specs.histories.Duty.{events, is_closed}
use Rattle.desk_model.specs.boards.Rank.{rank}
use Rattle.desk_model.specs.offers.Offers.{offer_in, open_offer, on_offer}
use Rattle.desk_model.specs.boards.Marks.{is_marked_off}
use Rattle.desk_model.specs.offers.Assigned.{is_assigned, assigned, begun}
use Rattle.desk_model.specs.offers.States.{state_of}
use Rattle.desk_model.specs.offers.TurnedDown.{has_turned_down}
use Rattle.desk_model.specs.offers.Held.{hold_end}
use Rattle.desk_model.specs.offers.Bars.{bar_of, first_free}

-- a reply that changes something: a command was done, or an offer was made
abbrev pub changes : Reply → Bool
changes r = is_done r || is_some (offer_in 0 r)

-- after these entries and after those, the desk has the same persons, boards, lists, marks, vacancies, offers and assignments, and
-- at each moment the same bars and the same first choice
pub record IsSameDesk (h later : History) : Type 0 where
  pub person : (p : ℕ) → person_of later p ≡ person_of h p
  pub quals : (p : ℕ) → quals_of later p ≡ quals_of h p
  pub marked : (p : ℕ) → is_marked_off later p ≡ is_marked_off h p
  pub board : (b : List ℕ) → board_of later b ≡ board_of h b
  pub vacancy : (v : ℕ) → vacancy_of later v ≡ vacancy_of h v
  pub persons : persons later ≡ persons h
  pub boards : boards later ≡ boards h
  pub vacancies : vacancies later ≡ vacancies h
  pub events : (p : ℕ) → events later p ≡ events h p
  pub closed : (p : ℕ) → is_closed later p ≡ is_closed h p
  pub on : (p : ℕ) (b : List ℕ) → is_on later p b ≡ is_on h p b
  pub rank : (b : List ℕ) (p : ℕ) → rank later b p ≡ rank h b p
  pub order : (b : List ℕ) → order later b ≡ order h b
  pub chain : (codes : List (List ℕ)) → chain later codes ≡ chain h codes
  pub offer : (v : ℕ) → open_offer later v ≡ open_offer h v
  pub on_offer : (p : ℕ) → on_offer later p ≡ on_offer h p
  pub has : (p v : ℕ) → is_assigned later p v ≡ is_assigned h p v
  pub assigned : (p : ℕ) → assigned later p ≡ assigned h p
  pub begun : (v : ℕ) → begun later v ≡ begun h v
  pub turned_down : (v p : ℕ) → has_turned_down later v p ≡ has_turned_down h v p
  pub hold_end : (codes : List (List ℕ)) (p : ℕ) → hold_end later codes p ≡ hold_end h codes p
  pub state : (v : ℕ) → state_of later v ≡ state_of h v
  pub bar : (m : ℕ) (job : JobValue) (p : ℕ) (person : Person) → bar_of later m job p person ≡ bar_of h m job p person
  pub first : (m : ℕ) (job : JobValue) → first_free later m job ≡ first_free h m job
