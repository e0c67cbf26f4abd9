-- What is shown of a history, and what a look sees.
use Rattle.std.specs.Prelude.{◌≡◌, ℕ, Option, None, Some, is_none, if◌then◌else◌, List, length}
use Rattle.std.specs.List.{slice_get}
use Rattle.std.specs.Option.{option_map}
use Rattle.desk_model.specs.boards.Boards.{order}
use Rattle.desk_model.specs.histories.History.{History}
use Rattle.desk_model.specs.answers.QuestionAnswer.{member_at}
use Rattle.desk_model.specs.histories.Register.{board_of, vacancy_of, boards, vacancies}
use Rattle.board_window.specs.Becomes.{offered_from}
use Rattle.board_window.specs.declared.shown_board.ShownBoard.{ShownBoard}
use Rattle.board_window.specs.declared.spot.Spot.{Spot}
use Rattle.board_window.specs.declared.spot.Spot.TheVariants as spot

-- the board of this code, at its place, with its order
pub record IsShown (h : History) (b : List ℕ) (x : ShownBoard) : Type 0 where
  pub code : x.code ≡ b
  pub place : option_map (λ setup. setup.place) (board_of h b) ≡ Some x.place
  pub members : x.members ≡ order h b

-- all boards of a history, as they were set up
pub record AreBoards (xs : List ShownBoard) (h : History) : Type 0 where
  pub many : length xs ≡ length (boards h)
  pub each : (j : ℕ) (b : List ℕ) → slice_get (boards h) j ≡ Some b → (x : ShownBoard) × ((slice_get xs j ≡ Some x) × IsShown h b x)

-- each vacancy that was made, with the board that its open offer was made from
pub record AreOffers (under : ℕ → Option (Option (List ℕ))) (numbers : List ℕ) (h : History) : Type 0 where
  pub numbers_are : numbers ≡ vacancies h
  pub each : (v : ℕ) → under v ≡ option_map (λ job. offered_from h v) (vacancy_of h v)

-- ---- what a look sees

-- somebody stands there; else nobody does, and the board has so many persons
abbrev pub seen_at : ℕ → Option ℕ → Spot
seen_at count (Some p) = spot.Person p
seen_at count None = spot.NoOne count

-- at a position of a board, from 1, in its order by this history
abbrev pub spot_of : History → List ℕ → ℕ → Spot
spot_of h b position = if is_none (board_of h b) then spot.NoBoard else seen_at (length (order h b)) (member_at h b position)
