-- What each command changes where it is accepted. What isn't named here stays, by the table of parts.
use Rattle.std.specs.Prelude.{◌≡◌, ℕ, ◌+◌, Bool, true, false, ◌&&◌, ◌||◌, nat_eq, max, Option, None, Some, if◌then◌else◌, List, [], ◌∷◌, ◌++◌}
use Rattle.std.specs.Str.{bytes_eq}
use Rattle.qualifications.specs.declared.craft.Craft.{Craft}
use Rattle.duty_events.specs.declared.event.Event.{Event}
use Rattle.desk_model.specs.declared.command.Cmd.{Cmd}
use Rattle.desk_model.specs.declared.reply.Reply.{Reply}
use Rattle.desk_model.specs.declared.reply.Reply.TheVariants as reply
use Rattle.desk_model.specs.declared.vac_state.VacState.TheVariants as state
use Rattle.desk_model.specs.statements.Job.{JobValue}
use Rattle.desk_model.specs.statements.Statement.{stated_of}
use Rattle.desk_model.specs.statements.Entry.{entry_of}
use Rattle.desk_model.specs.histories.History.{History, with_entry}
use Rattle.desk_model.specs.histories.Register.{person_of, quals_of, board_of, vacancy_of, persons, boards, vacancies}
use Rattle.desk_model.specs.offers.Offers.{open_offer, on_offer}
use Rattle.desk_model.specs.boards.Boards.{is_on, declined, released, order}
use Rattle.desk_model.specs.histories.Duty.{events, is_closed}
use Rattle.desk_model.specs.boards.Marks.{is_marked_off}
use Rattle.desk_model.specs.offers.Assigned.{reports, is_assigned, assigned}
use Rattle.desk_model.specs.offers.States.{state_of}
use Rattle.desk_model.specs.offers.TurnedDown.{has_turned_down}
use Rattle.desk_model.specs.offers.Held.{is_from, hold_end}
use Rattle.desk_model.specs.laws.Comes.{without, sent_last, left_open, given_up, started}
use Rattle.desk_model.specs.histories.Legal.{IsNext, IsLegal}
use Rattle.desk_model.specs.declared.limits.TheConstants.{HOLD}

-- a legal history goes on by a command with this reply, and then what follows holds of it before and after
abbrev pub Answered : Cmd → Reply → (History → History → ℕ → Type 0) → Type 0
Answered c r After = (h : History) (caller minute moment : ℕ) → IsLegal h → IsNext h (entry_of caller (stated_of minute c) moment r)
    → After h (with_entry h (entry_of caller (stated_of minute c) moment r)) moment

abbrev pub Accepted : Cmd → (History → History → Type 0) → Type 0
Accepted c After = Answered c reply.Done (λ h later moment. After h later)

-- ---- persons and boards

pub record Enrols (p : ℕ) (craft_is : Craft) (home_is : List ℕ) (able : ℕ) (h later : History) : Type 0 where
  pub person : (q : ℕ) → person_of later q ≡ (if nat_eq p q then Some (record { craft = craft_is; home = home_is }) else person_of h q)
  pub among : persons later ≡ persons h ++ p ∷ []
  pub quals : (q : ℕ) → quals_of later q ≡ (if nat_eq p q then able else quals_of h q)
  pub marked : (q : ℕ) → is_marked_off later q ≡ (if nat_eq p q then false else is_marked_off h q)

pub record SetsUp (b : List ℕ) (sort : Bool) (at : List ℕ) (h later : History) : Type 0 where
  pub board : (c : List ℕ) → board_of later c ≡ (if bytes_eq b c then Some (record { extra = sort; place = at }) else board_of h c)
  pub among : boards later ≡ boards h ++ b ∷ []

-- a person is put at the bottom of a board, and their past is closed
pub record Lists (p : ℕ) (b : List ℕ) (h later : History) : Type 0 where
  pub on : (q : ℕ) (c : List ℕ) → is_on later q c ≡ (if bytes_eq b c && nat_eq p q then true else is_on h q c)
  pub closed : (q : ℕ) → is_closed later q ≡ (is_closed h q || nat_eq p q)
  pub bottom : (c : List ℕ) → order later c ≡ (if bytes_eq b c then without p (order h c) ++ p ∷ [] else order h c)

-- and taken off it, and the others close up
pub record Unlists (p : ℕ) (b : List ℕ) (h later : History) : Type 0 where
  pub on : (q : ℕ) (c : List ℕ) → is_on later q c ≡ (if bytes_eq b c && nat_eq p q then false else is_on h q c)
  pub closes_up : (c : List ℕ) → order later c ≡ (if bytes_eq b c then without p (order h c) else order h c)

pub record MarksOff (p : ℕ) (h later : History) : Type 0 where
  pub marked : (q : ℕ) → is_marked_off later q ≡ (if nat_eq p q then true else is_marked_off h q)

-- marked on, a person goes to the bottom of each of their boards
pub record MarksOn (p : ℕ) (h later : History) : Type 0 where
  pub marked : (q : ℕ) → is_marked_off later q ≡ (if nat_eq p q then false else is_marked_off h q)
  pub bottom : (b : List ℕ) → order later b ≡ sent_last false p (order h b)

pub record Qualifies (p able : ℕ) (h later : History) : Type 0 where
  pub quals : (q : ℕ) → quals_of later q ≡ (if nat_eq p q then able else quals_of h q)

-- ---- what persons do

pub record TellsPast (p : ℕ) (e : Event) (h later : History) : Type 0 where
  pub done : (q : ℕ) → events later q ≡ (if nat_eq p q then events h q ++ e ∷ [] else events h q)

-- who goes to the bottom of a board goes there if they stand on it
abbrev pub to_bottom : Option ℕ → List ℕ → List ℕ
to_bottom None ps = ps
to_bottom (Some p) ps = sent_last false p ps

-- a final release sends a person to the bottom of their boards at its place, and a report begins the vacancy that is theirs
pub record Happens (p : ℕ) (e : Event) (h later : History) : Type 0 where
  pub done : (q : ℕ) → events later q ≡ (if nat_eq p q then events h q ++ e ∷ [] else events h q)
  pub closed : (q : ℕ) → is_closed later q ≡ (is_closed h q || nat_eq p q)
  pub bottom : (b : List ℕ) → order later b ≡ to_bottom (released (board_of h b) p e) (order h b)
  pub has : (q : ℕ) → assigned later q ≡ (if nat_eq p q && reports e then None else assigned h q)
  pub stands : (v : ℕ) → state_of later v ≡ (if reports e then started p (state_of h v) else state_of h v)

-- ---- vacancies and offers

pub record Makes (job : JobValue) (h later : History) : Type 0 where
  pub vacancy : (v : ℕ) → vacancy_of later v ≡ (if nat_eq job.vac v then Some job else vacancy_of h v)
  pub among : vacancies later ≡ vacancies h ++ job.vac ∷ []

-- an offer is open to a person, made at the moment from this board
pub record Offers (v p : ℕ) (b : List ℕ) (h later : History) (moment : ℕ) : Type 0 where
  pub offer : (w : ℕ) → open_offer later w ≡ (if nat_eq v w then Some (record { person = p; board = b; made = moment }) else open_offer h w)
  pub theirs : (q : ℕ) → on_offer later q ≡ (if nat_eq p q then Some v else on_offer h q)
  pub stands : (w : ℕ) → state_of later w ≡ (if nat_eq v w then state.OnOffer p else state_of h w)

-- an offer is no more, and nobody has it on offer
pub record Settles (v : ℕ) (h later : History) : Type 0 where
  pub offer : (w : ℕ) → open_offer later w ≡ (if nat_eq v w then None else open_offer h w)
  pub theirs : (q : ℕ) → on_offer later q ≡ left_open (Some v) (on_offer h q)

pub record Accepts (v p : ℕ) (h later : History) : Type 0 where
  pub settled : Settles v h later
  pub has : (q : ℕ) → assigned later q ≡ (if nat_eq p q then Some v else assigned h q)
  pub stands : (w : ℕ) → state_of later w ≡ (if nat_eq v w then state.Taken p else state_of h w)

-- who declines goes to the bottom of the board that the offer was made from; in the second edition they are held from the moment on
pub record Declines (v p : ℕ) (h later : History) (moment : ℕ) : Type 0 where
  pub settled : Settles v h later
  pub stands : (w : ℕ) → state_of later w ≡ (if nat_eq v w then state.Vacant else state_of h w)
  pub bottom : (b : List ℕ) → order later b ≡ to_bottom (declined b (open_offer h v) p) (order h b)
  pub turned : (w q : ℕ) → has_turned_down later w q ≡ (has_turned_down h w q || (nat_eq v w && nat_eq p q))
  pub hold : (codes : List (List ℕ)) (q : ℕ) → hold_end later codes q
      ≡ (if nat_eq p q && is_from codes (open_offer h v) then max (hold_end h codes q) (moment + HOLD) else hold_end h codes q)

-- who doesn't answer is marked off
pub record IsSilent (v p : ℕ) (h later : History) : Type 0 where
  pub settled : Settles v h later
  pub stands : (w : ℕ) → state_of later w ≡ (if nat_eq v w then state.Vacant else state_of h w)
  pub marked : (q : ℕ) → is_marked_off later q ≡ (if nat_eq p q then true else is_marked_off h q)
  pub turned : (w q : ℕ) → has_turned_down later w q ≡ (has_turned_down h w q || (nat_eq v w && nat_eq p q))

pub record Withdraws (v : ℕ) (h later : History) : Type 0 where
  pub settled : Settles v h later
  pub stands : (w : ℕ) → state_of later w ≡ (if nat_eq v w then state.Vacant else state_of h w)

-- a vacancy that is annulled is nobody's
pub record Annuls (v : ℕ) (h later : History) : Type 0 where
  pub settled : Settles v h later
  pub has : (q : ℕ) → assigned later q ≡ left_open (Some v) (assigned h q)
  pub stands : (w : ℕ) → state_of later w ≡ (if nat_eq v w then state.Annulled else state_of h w)

-- the vacancy that a person gives up is vacant again, they are marked off, and have turned it down
pub record Drops (p : ℕ) (h later : History) : Type 0 where
  pub has : (q : ℕ) → assigned later q ≡ (if nat_eq p q then None else assigned h q)
  pub stands : (w : ℕ) → state_of later w ≡ given_up p (state_of h w)
  pub marked : (q : ℕ) → is_marked_off later q ≡ (if nat_eq p q then true else is_marked_off h q)
  pub turned : (w q : ℕ) → has_turned_down later w q ≡ (has_turned_down h w q || (nat_eq p q && is_assigned h q w))
