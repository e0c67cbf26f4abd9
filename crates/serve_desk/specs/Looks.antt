-- The texts that answer looks at boards.
use Rattle.std.specs.Prelude.{ℕ, List, ◌∷◌, ◌++◌, codes, decimal}
use Rattle.board_window.specs.declared.spot.Spot.{Spot}
use Rattle.board_window.specs.declared.spot.Spot.TheVariants as spot
use Rattle.serve_desk.specs.Texts.{with_feed}

-- what stands at the position: a person; or nobody, and the board has so many persons; or the code is no board
abbrev pub spot_text : Spot → List ℕ
spot_text (spot.Person person) = decimal person
spot_text (spot.NoOne length) = codes "no one " ++ decimal length
spot_text spot.NoBoard = codes "no board"

-- so many entries of the history were seen, and this stands there by them
abbrev pub look_text : ℕ → Spot → List ℕ
look_text seen what = with_feed (codes "look " ++ decimal seen ++ 32 ∷ spot_text what)

-- what is shown is so many entries behind
abbrev pub behind : ℕ → List ℕ
behind count = with_feed (codes "behind " ++ decimal count)
