-- What is kept of boards, beside what a history says of them.
use Rattle.std.specs.Prelude.{◌≡◌, ◌<◌, ℕ, Option, None, Some, if◌then◌else◌, List, length}
use Rattle.std.specs.Str.{bytes_eq}
use Rattle.indexmap.specs.IndexMap.{get, keys}
use Rattle.desk_model.specs.declared.limits.TheConstants.{BOARD_LIMIT}
use Rattle.desk_model.specs.declared.command.Cmd.{Cmd}
use Rattle.desk_model.specs.declared.command.Cmd.TheVariants as cmd
use Rattle.desk_model.specs.declared.board_setup.BoardSetup.{BoardSetup}
use Rattle.desk_model.specs.histories.History.{History}
use Rattle.desk_model.specs.histories.Register.{board_of, boards}
use Rattle.desk_register.specs.declared.boards.Boards.{Boards}

-- what is kept under a code is what the board was set up as; nothing is kept under one that is no board; and the codes that something
-- is kept under are the boards, in the order in which they came
pub record AreBoards (under : List ℕ → Option BoardSetup) (codes : List (List ℕ)) (h : History) : Type 0 where
  pub each : (b : List ℕ) → under b ≡ board_of h b
  pub order : codes ≡ boards h

-- a board that is to be set up is new, and there is room
abbrev pub CanSetUp : Option (List ℕ) → (List ℕ → Option BoardSetup) → List (List ℕ) → Type 0
CanSetUp None under codes = Unit
CanSetUp (Some b) under codes = (under b ≡ None) × (length codes < BOARD_LIMIT)

-- what is kept under a code, where a command sets up a board
abbrev pub put_board : Cmd → (List ℕ → Option BoardSetup) → List ℕ → Option BoardSetup
put_board (cmd.Board board extra place) under b = if bytes_eq board b then Some (record { extra = extra; place = place }) else under b
put_board other under b = under b

-- what is kept under a code, and under which something is, in the order in which these came
abbrev pub board_under : Boards → List ℕ → Option BoardSetup
board_under x k = get bytes_eq x.kept k

abbrev pub board_codes : Boards → List (List ℕ)
board_codes x = keys x.kept

-- the register of boards keeps that
abbrev pub KeepsBoards : Boards → History → Type 0
KeepsBoards x h = AreBoards (board_under x) (board_codes x) h
