-- What an entry makes of the boards that are shown.
use Rattle.std.specs.Prelude.{ℕ, Bool, false, ◌||◌, nat_eq, nat_lt, Option, None, Some, if◌then◌else◌, List, [], ◌∷◌, ◌++◌, map, length}
use Rattle.std.specs.List.{list_any}
use Rattle.std.specs.Option.{option_map}
use Rattle.std.specs.Str.{bytes_eq}
use Rattle.duty_events.specs.declared.event.Event.{Event}
use Rattle.duty_events.specs.declared.event.Event.TheVariants as event
use Rattle.desk_model.specs.declared.limits.TheConstants.{BOARD_LIMIT, MEMBER_LIMIT}
use Rattle.desk_model.specs.declared.command.Cmd.{Cmd}
use Rattle.desk_model.specs.declared.command.Cmd.TheVariants as cmd
use Rattle.desk_model.specs.laws.Comes.{takes_off, without, left_by}
use Rattle.desk_model.specs.statements.Entry.{EntryValue}
use Rattle.desk_model.specs.histories.History.{History, is_done}
use Rattle.desk_model.specs.offers.Offers.{open_offer}
use Rattle.board_window.specs.declared.shown_board.ShownBoard.{ShownBoard}

-- ---- one board, by a command that was done; `from` is the board of the offer that it declines

-- whom declining an offer sends to the bottom of a board, and whom a final release does at its place
abbrev pub declined_from : List ℕ → Option (List ℕ) → ℕ → Option ℕ
declined_from b None person = None
declined_from b (Some board) person = if bytes_eq board b then Some person else None

abbrev pub released_at : List ℕ → ℕ → Event → Option ℕ
released_at place person (event.Final t at) = if bytes_eq place at then Some person else None
released_at place person other = None

-- whom a command sends to the bottom of a board
abbrev pub bottom_of : Option (List ℕ) → Cmd → List ℕ → List ℕ → Option ℕ
bottom_of from (cmd.List person board) b place = if bytes_eq board b then Some person else None
bottom_of from (cmd.MarkOn person) b place = Some person
bottom_of from (cmd.Decline vac person) b place = declined_from b from person
bottom_of from (cmd.Happened person event) b place = released_at place person event
bottom_of from other b place = None

-- the command puts somebody on this board
abbrev pub is_put : List ℕ → Cmd → Bool
is_put b (cmd.List person board) = bytes_eq board b
is_put b other = false

-- who is sent to the bottom goes there, where they are put on the board or stand on it, and there is room
abbrev pub set_last : Bool → ℕ → List ℕ → List ℕ
set_last put p ps =
    if put || list_any (nat_eq p) ps then (if nat_lt (length (without p ps)) MEMBER_LIMIT then without p ps ++ p ∷ [] else without p ps)
    else ps

abbrev pub moved : Bool → Option ℕ → Option ℕ → List ℕ → List ℕ
moved put off None ps = left_by off ps
moved put off (Some p) ps = set_last put p ps

abbrev pub becomes : Option (List ℕ) → Cmd → ShownBoard → ShownBoard
becomes from c x = record x { members = moved (is_put x.code c) (takes_off x.code c) (bottom_of from c x.code x.place) x.members }

-- ---- all boards

-- and the board that a command sets up, where there is room
abbrev pub set_up : Cmd → List ShownBoard → List ShownBoard
set_up (cmd.Board board extra place) xs = if nat_lt (length xs) BOARD_LIMIT then xs ++ record { code = board; place = place; members = [] } ∷ [] else xs
set_up other xs = xs

abbrev pub boards_by : Option (List ℕ) → Cmd → List ShownBoard → List ShownBoard
boards_by from c xs = set_up c (map (becomes from c) xs)

-- after an entry
abbrev pub boards_after : Option (List ℕ) → EntryValue → List ShownBoard → List ShownBoard
boards_after from e xs = if is_done e.reply then boards_by from e.stated.cmd xs else xs

-- ---- the board of an offer

-- the board that the open offer of a vacancy was made from
abbrev pub offered_from : History → ℕ → Option (List ℕ)
offered_from h v = option_map (λ offer. offer.board) (open_offer h v)

-- and that of the offer which a command declines
abbrev pub declines_from : History → Cmd → Option (List ℕ)
declines_from h (cmd.Decline vac person) = offered_from h vac
declines_from h other = None
