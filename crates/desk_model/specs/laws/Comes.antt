-- What one entry more makes of the desk.
use Rattle.std.specs.Prelude.{◌≡◌, ℕ, Bool, false, ◌&&◌, ◌||◌, not, nat_eq, max, Option, None, Some, is_some, unwrap_or, if◌then◌else◌, List, [], ◌∷◌, ◌++◌, filter}
use Rattle.std.specs.Option.{option_or}
use Rattle.std.specs.Str.{bytes_eq}
use Rattle.std.specs.List.{cons_option, list_any}
use Rattle.duty_events.specs.declared.event.Event.{Event}
use Rattle.desk_model.specs.declared.command.Cmd.{Cmd}
use Rattle.desk_model.specs.declared.command.Cmd.TheVariants as cmd
use Rattle.desk_model.specs.declared.vac_state.VacState.{VacState}
use Rattle.desk_model.specs.declared.vac_state.VacState.TheVariants as state
use Rattle.desk_model.specs.declared.offer.Offer.{Offer}
use Rattle.desk_model.specs.statements.Entry.{EntryValue}
use Rattle.desk_model.specs.histories.History.{History, with_entry, is_done, said}
use Rattle.desk_model.specs.histories.Register.{enrols, enrols_any, gives, sets_up, sets_up_any, makes, makes_any, person_of, quals_of, board_of, vacancy_of, persons, boards, vacancies}
use Rattle.desk_model.specs.offers.Offers.{asks_for, is_of, offer_in, offered_to, settles, offer_said, open_offer}
use Rattle.desk_model.specs.boards.Boards.{puts, is_on, sends, order}
use Rattle.desk_model.specs.histories.Duty.{tells, may_come, events, closes, is_closed}
use Rattle.desk_model.specs.boards.Marks.{marks, is_marked_off}
use Rattle.desk_model.specs.offers.Assigned.{reports, assigns, is_assigned, assigned}
use Rattle.desk_model.specs.offers.States.{open_state}
use Rattle.desk_model.specs.offers.TurnedDown.{turns_down, has_turned_down}
use Rattle.desk_model.specs.offers.Held.{hold_told, hold_end}

-- ---- boards

-- the person whom a command takes off this board
abbrev pub takes_off : List ℕ → Cmd → Option ℕ
takes_off b (cmd.Unlist person board) = if bytes_eq board b then Some person else None
takes_off b other = None

-- all but this person
abbrev pub without : ℕ → List ℕ → List ℕ
without p ps = filter (λ q. not (nat_eq p q)) ps

-- those without whom is taken off
abbrev pub left_by : Option ℕ → List ℕ → List ℕ
left_by None ps = ps
left_by (Some p) ps = without p ps

-- who is sent to the bottom of a board goes there, where they are put on it or stand on it
abbrev pub sent_last : Bool → ℕ → List ℕ → List ℕ
sent_last put p ps = if put || list_any (nat_eq p) ps then without p ps ++ p ∷ [] else ps

-- the order of a board after an entry, where it stood so before
abbrev pub order_by : EntryValue → List ℕ → Option ℕ → List ℕ → List ℕ
order_by e b None ps = left_by (said (takes_off b) e) ps
order_by e b (Some p) ps = sent_last (unwrap_or (said (puts b p) e) false) p ps

abbrev pub order_after : History → EntryValue → List ℕ → List ℕ
order_after h e b = order_by e b (said (sends b h) e) (order h b)

-- ---- what persons did

-- the events with one more that was told, where it may come
abbrev pub kept : List Event → Option Event → List Event
kept es None = es
kept es (Some t) = if may_come es t then es ++ t ∷ [] else es

-- ---- assignments and states

-- what an accepted command makes of the vacancy that is assigned to a person
abbrev pub assigned_by : ℕ → Cmd → Option ℕ → Option ℕ
assigned_by p (cmd.Accept vac person) was = if nat_eq person p then Some vac else was
assigned_by p (cmd.Drop person) was = if nat_eq person p then None else was
assigned_by p (cmd.Happened person event) was = if nat_eq person p && reports event then None else was
assigned_by p (cmd.Annul vac) was = if is_of vac was then None else was
assigned_by p other was = was

abbrev pub assigned_after : ℕ → EntryValue → Option ℕ → Option ℕ
assigned_after p e was = if is_done e.reply then assigned_by p e.stated.cmd was else was

-- a vacancy that this person has is another's no more: it is vacant, or begun
abbrev pub given_up : ℕ → VacState → VacState
given_up person (state.Taken p) = if nat_eq person p then state.Vacant else state.Taken p
given_up person how = how

abbrev pub started : ℕ → VacState → VacState
started person (state.Taken p) = if nat_eq person p then state.Begun p else state.Taken p
started person how = how

-- what an accepted command makes of how a vacancy stands
abbrev pub state_by : ℕ → Cmd → VacState → VacState
state_by v (cmd.Accept vac person) how = if nat_eq vac v then state.Taken person else how
state_by v (cmd.Decline vac person) how = if nat_eq vac v then state.Vacant else how
state_by v (cmd.NoAnswer vac person) how = if nat_eq vac v then state.Vacant else how
state_by v (cmd.Withdraw vac person) how = if nat_eq vac v then state.Vacant else how
state_by v (cmd.Annul vac) how = if nat_eq vac v then state.Annulled else how
state_by v (cmd.Drop person) how = given_up person how
state_by v (cmd.Happened person event) how = if reports event then started person how else how
state_by v other how = how

-- and what an offer makes of it
abbrev pub offered_by : ℕ → EntryValue → Option Offer → VacState → VacState
offered_by v e None how = how
offered_by v e (Some offer) how = if is_of v (asks_for e.stated.cmd) then open_state (Some offer) else how

abbrev pub state_after : ℕ → EntryValue → VacState → VacState
state_after v e how = if is_done e.reply then state_by v e.stated.cmd how else offered_by v e (offer_in e.moment e.reply) how

-- ---- offers to a person

-- the vacancy that is on offer to a person after an entry: the one that it offers them; none where it ends the offer of theirs
abbrev pub left_open : Option ℕ → Option ℕ → Option ℕ
left_open ended None = None
left_open ended (Some v) = if is_of v ended then None else Some v

abbrev pub on_offer_after : ℕ → EntryValue → Option ℕ → Option ℕ
on_offer_after p e was = option_or (offered_to p e) (left_open (said settles e) was)

-- ---- all of it

-- what each definition of a history is with one entry more, from what it was and what the entry says
pub record Comes (h : History) (e : EntryValue) : Type 0 where
  pub person : (p : ℕ) → person_of (with_entry h e) p ≡ option_or (person_of h p) (said (enrols p) e)
  pub quals : (p : ℕ) → quals_of (with_entry h e) p ≡ unwrap_or (said (gives p) e) (quals_of h p)
  pub board : (b : List ℕ) → board_of (with_entry h e) b ≡ option_or (board_of h b) (said (sets_up b) e)
  pub vacancy : (v : ℕ) → vacancy_of (with_entry h e) v ≡ option_or (vacancy_of h v) (said (makes v) e)
  pub persons : persons (with_entry h e) ≡ persons h ++ cons_option (said enrols_any e) []
  pub boards : boards (with_entry h e) ≡ boards h ++ cons_option (said sets_up_any e) []
  pub vacancies : vacancies (with_entry h e) ≡ vacancies h ++ cons_option (said makes_any e) []
  pub events : (p : ℕ) → events (with_entry h e) p ≡ kept (events h p) (said (tells p) e)
  pub closed : (p : ℕ) → is_closed (with_entry h e) p ≡ (is_closed h p || is_some (said (closes p) e))
  pub on : (p : ℕ) (b : List ℕ) → is_on (with_entry h e) p b ≡ unwrap_or (said (puts b p) e) (is_on h p b)
  pub order : (b : List ℕ) → order (with_entry h e) b ≡ order_after h e b
  pub offer : (v : ℕ) → open_offer (with_entry h e) v ≡ unwrap_or (offer_said v e) (open_offer h v)
  pub marked : (p : ℕ) → is_marked_off (with_entry h e) p ≡ unwrap_or (said (marks p) e) (is_marked_off h p)
  pub has : (p v : ℕ) → is_assigned (with_entry h e) p v ≡ unwrap_or (said (assigns p v) e) (is_assigned h p v)
  pub assigned : (p : ℕ) → assigned (with_entry h e) p ≡ assigned_after p e (assigned h p)
  pub turned_down : (v p : ℕ) → has_turned_down (with_entry h e) v p ≡ (has_turned_down h v p || is_some (said (turns_down v p h) e))
  pub hold_end : (codes : List (List ℕ)) (p : ℕ) → hold_end (with_entry h e) codes p ≡ max (hold_end h codes p) (unwrap_or (said (hold_told codes p h e.moment) e) 0)
