-- What a look finds on boards that are those of a history.
use Rattle.std.proofs.Common.{◌≡◌, ℕ, ◌<◌, ◌-◌, Option, None, Some, is_none, if◌then◌else◌, List, length, refl, sym, ap, ◌∙◌, subst}
use Rattle.std.proofs.lemmas.Bool.{false≢true}
use Rattle.std.proofs.lemmas.List.Folds.{find_at}
use Rattle.std.proofs.lemmas.Option.{slice_get_within, slice_get-get_or, same_Some}
use Rattle.std.proofs.lemmas.Slice.Eq.{bytes_eq-Decides}
use Rattle.std.specs.Str.{bytes_eq}
use Rattle.std.specs.Option.{option_map}
use Rattle.std.specs.List.{slice_get, find, position_or_len}
use Rattle.desk_model.specs.declared.board_setup.BoardSetup.{BoardSetup}
use Rattle.desk_model.specs.boards.Boards.{order}
use Rattle.desk_model.specs.histories.History.{History}
use Rattle.desk_model.specs.histories.Register.{board_of, boards}
use Rattle.desk_model.proofs.OfferedLemmas.{find-passes}
use Rattle.board_window.specs.declared.shown_board.ShownBoard.{ShownBoard}
use Rattle.board_window.specs.declared.spot.Spot.TheVariants as spot
use Rattle.board_window.specs.Shows.{IsShown, AreBoards, seen_at, spot_of}
use Rattle.board_window.proofs.FoundLemmas.{find-none, board-among}

-- what is found by a board's code is that board
found-shown : (h : History) (xs : List ShownBoard) (b : List ℕ) (x : ShownBoard) → AreBoards xs h → find (λ s. bytes_eq s.code b) xs ≡ Some x → IsShown h b x
found-shown h xs b x are found =
    let test = λ (s : ShownBoard). bytes_eq s.code b in
    let j = position_or_len test xs in
    let at : slice_get xs j ≡ Some x = sym (find_at test xs) ∙ found in
    let within : j < length (boards h) = subst (λ n. j < n) are.many (slice_get_within xs j x at) in
    let here = are.each j _ (slice_get-get_or (boards h) j b within) in
    let same : here.0 ≡ x = same_Some here.0 x (sym here.1.0 ∙ at) in
    let code : here.0.code ≡ b = ap (λ s. s.code) same ∙ (bytes_eq-Decides x.code b).0 (find-passes test xs x found) in
    subst (λ s. IsShown h b s) same (subst (λ code. IsShown h code here.0) (sym here.1.1.code ∙ code) here.1.1)

shown-spot : (h : History) (b : List ℕ) (position : ℕ) (x : ShownBoard) → IsShown h b x → spot_of h b position ≡ seen_at (length x.members) (slice_get x.members (position - 1))
shown-spot h b position x is = rw is.members (go (board_of h b) is.place)
  where
    go : (known : Option BoardSetup) → option_map (λ setup. setup.place) known ≡ Some x.place
        → (if is_none known then spot.NoBoard else seen_at (length (order h b)) (slice_get (order h b) (position - 1)))
        ≡ seen_at (length (order h b)) (slice_get (order h b) (position - 1))
    go None position = cc
    go (Some setup) position = refl

pub spot-found : (h : History) (xs : List ShownBoard) (b : List ℕ) (position : ℕ) (x : ShownBoard) → AreBoards xs h → find (λ s. bytes_eq s.code b) xs ≡ Some x
    → seen_at (length x.members) (slice_get x.members (position - 1)) ≡ spot_of h b position
spot-found h xs b position x are found = sym (shown-spot h b position x (found-shown h xs b x are found))

-- where nothing is found by a code, it is no board
pub spot-none : (h : History) (xs : List ShownBoard) (b : List ℕ) (position : ℕ) → AreBoards xs h → find (λ s. bytes_eq s.code b) xs ≡ None → spot.NoBoard ≡ spot_of h b position
spot-none h xs b position are none = go (board_of h b) refl
  where
    go : (known : Option BoardSetup) → board_of h b ≡ known
        → spot.NoBoard ≡ (if is_none known then spot.NoBoard else seen_at (length (order h b)) (slice_get (order h b) (position - 1)))
    go None is = refl
    go (Some setup) is =
        let among = board-among h b setup is in
        let here = are.each among.0 b among.1 in
        absurd (false≢true (sym (find-none (λ s. bytes_eq s.code b) xs among.0 here.0 none here.1.0) ∙ (bytes_eq-Decides here.0.code b).1 here.1.1.code))
