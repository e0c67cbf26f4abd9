-- The boards' members and who is on which board, beside what a history says.
use Rattle.std.specs.Prelude.{◌≡◌, ℕ, ◌≤◌, ◌==◌, Bool, true, false, not, bit_and, slice_index_or, Option, None, Some, List, [], length, if◌then◌else◌}
use Rattle.std.specs.List.{slice_get}
use Rattle.std.specs.Option.{option_map}
use Rattle.rest_rules.specs.Rest.{rest_end}
use Rattle.pool_board.specs.Board.{BoardValue}
use Rattle.pool_board.specs.Members.{persons as members_in, ready_of}
use Rattle.vacancy_fill.specs.Chain.{members_at}
use Rattle.desk_model.specs.declared.limits.TheConstants.{PERSON_LIMIT, BOARD_LIMIT}
use Rattle.desk_model.specs.declared.board_setup.BoardSetup.{BoardSetup}
use Rattle.desk_model.specs.declared.command.Cmd.{Cmd}
use Rattle.desk_model.specs.declared.command.Cmd.TheVariants as cmd
use Rattle.desk_model.specs.statements.Entry.{EntryValue}
use Rattle.desk_model.specs.histories.History.{History, with_entry, said}
use Rattle.desk_model.specs.histories.Register.{board_of, persons, boards, sets_up_any}
use Rattle.desk_model.specs.offers.Offers.{open_offer}
use Rattle.desk_model.specs.boards.Boards.{is_on, order}
use Rattle.desk_model.specs.histories.Duty.{events, in_tour}
use Rattle.desk_register.specs.Among.{index_among, board_index}
use Rattle.desk_state.specs.Words.{has_board, is_in}
use Rattle.desk_state.specs.declared.named_indexes.NamedIndexes.{NamedIndexes}
use Rattle.desk_state.specs.declared.named_indexes.TheConstants.{NEVER}
use Rattle.desk_state.specs.declared.lists.Lists.{Lists}

-- the minute from which a person is ready: the last that there is in a tour of duty, and else the end of their rest
abbrev pub ready_minute : History → ℕ → ℕ
ready_minute h p = if in_tour h p then NEVER else rest_end (events h p)

-- what a board is set up as: its sort and its place
abbrev pub setup_of : BoardValue → BoardSetup
setup_of x = record { extra = x.extra; place = x.place }

-- of 64 boards the first are the desk's, as they were set up: each has its members in its order, each of them ready from their minute,
-- and the others have none; who is on which board is kept by the indexes of both; and no board was set up twice
pub record KeepsLists (kept : List BoardValue) (listed : ℕ → ℕ → Bool) (h : History) : Type 0 where
  pub many : length kept ≡ BOARD_LIMIT
  pub few_persons : length (persons h) ≤ PERSON_LIMIT
  pub few_boards : length (boards h) ≤ BOARD_LIMIT
  pub order : (j : ℕ) (b : List ℕ) → slice_get (boards h) j ≡ Some b → members_in (members_at kept j) ≡ order h b
  pub empty : (j : ℕ) → length (boards h) ≤ j → members_at kept j ≡ []
  pub ready : (j p r : ℕ) → ready_of p (members_at kept j) ≡ Some r → r ≡ ready_minute h p
  pub setup : (j : ℕ) (b : List ℕ) → slice_get (boards h) j ≡ Some b → board_of h b ≡ option_map setup_of (slice_get kept j)
  pub on : (p i j : ℕ) (b : List ℕ) → index_among (persons h) p ≡ Some i → slice_get (boards h) j ≡ Some b → listed i j ≡ is_on h p b
  pub nobody : (i j : ℕ) → length (persons h) ≤ i → listed i j ≡ false
  pub nowhere : (i j : ℕ) → length (boards h) ≤ j → listed i j ≡ false
  pub apart : (i j : ℕ) (b : List ℕ) → slice_get (boards h) i ≡ Some b → slice_get (boards h) j ≡ Some b → i ≡ j

-- the boards that are kept
abbrev pub boards_kept : Lists → List BoardValue
boards_kept l = l.orders.boards.items

-- the words of the persons
abbrev pub words_kept : Lists → List ℕ
words_kept l = l.listings.words.items

-- that is so of what is kept, and there is a word for each of 1,000 persons
pub record Keeps (l : Lists) (h : History) : Type 0 where
  pub lists : KeepsLists (boards_kept l) (is_in (words_kept l)) h
  pub words : length (words_kept l) ≡ PERSON_LIMIT

-- the person at this index is kept as on one of the boards of the word
abbrev pub is_on_one : Lists → ℕ → ℕ → Bool
is_on_one l i boards = not (bit_and (slice_index_or (words_kept l) i 0) boards == 0)

-- the person is on a board that the word has
pub record IsOnOne (h : History) (p word : ℕ) : Type 0 where
  pub index : ℕ
  pub board : List ℕ
  pub at : slice_get (boards h) index ≡ Some board
  pub has : has_board word index ≡ true
  pub on_it : is_on h p board ≡ true

-- ---- what an entry names

-- the person whom a command names that may change what is kept
abbrev pub mover : Cmd → Option ℕ
mover (cmd.List person board) = Some person
mover (cmd.Unlist person board) = Some person
mover (cmd.MarkOn person) = Some person
mover (cmd.Decline vac person) = Some person
mover (cmd.Past person event) = Some person
mover (cmd.Happened person event) = Some person
mover other = None

-- the board that it names, or that the offer was made from which it declines
abbrev pub mover_board : History → Cmd → Option (List ℕ)
mover_board h (cmd.List person board) = Some board
mover_board h (cmd.Unlist person board) = Some board
mover_board h (cmd.Decline vac person) = option_map (λ x. x.board) (open_offer h vac)
mover_board h other = None

-- these are their indexes, and the minute from which the person is ready after the entry
pub record Names (h : History) (e : EntryValue) (n : NamedIndexes) : Type 0 where
  pub person : (p : ℕ) → said mover e ≡ Some p → n.person ≡ index_among (persons h) p
  pub board : (b : List ℕ) → said (mover_board h) e ≡ Some b → n.board ≡ board_index (boards h) b
  pub set_up : (b : List ℕ) → said sets_up_any e ≡ Some b → n.board ≡ Some (length (boards h))
  pub ready : (p : ℕ) → said mover e ≡ Some p → n.ready ≡ ready_minute (with_entry h e) p
