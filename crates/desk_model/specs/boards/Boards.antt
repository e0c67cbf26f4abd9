-- Who is on a board, in which order, and the chain of a vacancy.
use Rattle.std.specs.Prelude.{ℕ, ◌+◌, Bool, true, false, nat_eq, Option, None, Some, unwrap_or, if◌then◌else◌, List, [], ◌∷◌, filter}
use Rattle.std.specs.Str.{bytes_eq}
use Rattle.std.specs.List.{filter_map, list_any, flat_map}
use Rattle.duty_events.specs.declared.event.Event.{Event}
use Rattle.duty_events.specs.declared.event.Event.TheVariants as event
use Rattle.desk_model.specs.declared.command.Cmd.{Cmd}
use Rattle.desk_model.specs.declared.command.Cmd.TheVariants as cmd
use Rattle.desk_model.specs.declared.link.Link.{Link}
use Rattle.desk_model.specs.declared.board_setup.BoardSetup.{BoardSetup}
use Rattle.desk_model.specs.declared.offer.Offer.{Offer}
use Rattle.desk_model.specs.histories.History.{History, Step, steps, said, last_of}
use Rattle.desk_model.specs.histories.Register.{board_of, boards}
use Rattle.desk_model.specs.offers.Offers.{open_offer}

-- whether this person is on this board after a command: `list` puts them there, `unlist` takes them off
abbrev pub puts : List ℕ → ℕ → Cmd → Option Bool
puts b p (cmd.List person board) = if bytes_eq board b then (if nat_eq person p then Some true else None) else None
puts b p (cmd.Unlist person board) = if bytes_eq board b then (if nat_eq person p then Some false else None) else None
puts b p other = None

-- the person is on the board: the last accepted command that says whether they are says so
abbrev pub is_on : History → ℕ → List ℕ → Bool
is_on h p b = unwrap_or (last_of (said (puts b p)) h.entries) false

-- the boards that the person is on
abbrev pub boards_of : History → ℕ → List (List ℕ)
boards_of h p = filter (is_on h p) (boards h)

-- the board is at this place
abbrev pub is_at : List ℕ → Option BoardSetup → Bool
is_at place None = false
is_at place (Some board) = bytes_eq board.place place

-- whom an event of a person sends to the bottom of a board that was set up so: its final release at the board's place does
abbrev pub released : Option BoardSetup → ℕ → Event → Option ℕ
released board p (event.Final t place) = if is_at place board then Some p else None
released board p other = None

-- whom declining an offer sends to the bottom of this board: the offer was made from it
abbrev pub declined : List ℕ → Option Offer → ℕ → Option ℕ
declined b (Some offer) p = if bytes_eq offer.board b then Some p else None
declined b None p = None

-- the person whom a command sends to the bottom of this board, after this history: `list` does, marking on, declining an offer
-- that was made from it, and `event` with a final release at the board's place
abbrev pub sends : List ℕ → History → Cmd → Option ℕ
sends b h (cmd.List person board) = if bytes_eq board b then Some person else None
sends b h (cmd.MarkOn person) = Some person
sends b h (cmd.Decline vac person) = declined b (open_offer h vac) person
sends b h (cmd.Happened person event) = released (board_of h b) person event
sends b h other = None

-- whom a step sends there, and all whom a history did, in order
abbrev pub sent : List ℕ → Step → Option ℕ
sent b s = said (sends b s.before) s.entry

abbrev pub sent_to : History → List ℕ → List ℕ
sent_to h b = filter_map (sent b) (steps h)

-- each number once, where it stands last
abbrev pub keep_last : List ℕ → List ℕ
keep_last [] = []
keep_last (p ∷ ps) = if list_any (nat_eq p) ps then keep_last ps else p ∷ keep_last ps

-- the order of the board: all who are on it, by the number of the last entry that sent each to its bottom
abbrev pub order : History → List ℕ → List ℕ
order h b = filter (λ p. is_on h p b) (keep_last (sent_to h b))

-- the positions of a board from this one on, with these persons
abbrev pub links : List ℕ → ℕ → List ℕ → List Link
links b position [] = []
links b position (p ∷ ps) = record { board = b; position = position; person = p } ∷ links b (position + 1) ps

-- the chain of a vacancy with these boards: their orders one after another
abbrev pub chain : History → List (List ℕ) → List Link
chain h codes = flat_map (λ b. links b 1 (order h b)) codes
