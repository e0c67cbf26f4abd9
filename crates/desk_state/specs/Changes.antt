-- What a command that is done makes of each board, and of who is on which.
use Rattle.std.specs.Prelude.{◌≡◌, ◌≢◌, ℕ, ◌<◌, Bool, true, false, Option, Some, IfSome, ⊤, length, List, [], ◌∷◌, ◌++◌, if◌then◌else◌}
use Rattle.std.specs.List.{slice_get}
use Rattle.std.specs.Str.{bytes_eq}
use Rattle.duty_events.specs.declared.event.Event.{Event}
use Rattle.duty_events.specs.declared.event.Event.TheVariants as event
use Rattle.pool_board.specs.Board.{BoardValue, board_of, IsSameSort}
use Rattle.pool_board.specs.Members.{persons, is_listed, ready_of, without}
use Rattle.desk_model.specs.declared.limits.TheConstants.{BOARD_LIMIT, MEMBER_LIMIT}
use Rattle.desk_model.specs.declared.command.Cmd.{Cmd}
use Rattle.desk_model.specs.declared.command.Cmd.TheVariants as cmd
use Rattle.desk_model.specs.offers.Offers.{is_of}
use Rattle.desk_state.specs.Words.{has_board, set_at}
use Rattle.desk_state.specs.declared.named_indexes.NamedIndexes.{NamedIndexes}

-- the event is a final release at this place
abbrev pub is_final_at : List ℕ → Event → Bool
is_final_at place (event.Final t at) = bytes_eq place at
is_final_at place other = false

-- ---- one board

-- a board without members becomes one of this sort and place
abbrev pub SetsUp : Bool → List ℕ → BoardValue → BoardValue → Type 0
SetsUp extra place b x = b.members ≡ [] → x ≡ board_of place extra []

-- a person who isn't listed, where there is room, comes last, ready from the minute
abbrev pub TakesOn : ℕ → ℕ → BoardValue → BoardValue → Type 0
TakesOn p m b x = is_listed p b.members ≡ false → length b.members < MEMBER_LIMIT
    → IsSameSort b x × (x.members ≡ b.members ++ record { person = p; ready = m } ∷ [])

-- a listed person is no more, and nothing else changes
pub record HasLetGo (p : ℕ) (b x : BoardValue) : Type 0 where
  pub sort : IsSameSort b x
  pub order : persons x.members ≡ without p (persons b.members)
  pub ready : (q : ℕ) → q ≢ p → ready_of q x.members ≡ ready_of q b.members

abbrev pub LetsGo : ℕ → BoardValue → BoardValue → Type 0
LetsGo p b x = is_listed p b.members ≡ true → HasLetGo p b x

-- a listed person is ready from the minute, and at the bottom if so; nothing else changes
pub record HasMoved (at_bottom : Bool) (p m : ℕ) (b x : BoardValue) : Type 0 where
  pub sort : IsSameSort b x
  pub order : persons x.members ≡ (if at_bottom then without p (persons b.members) ++ p ∷ [] else persons b.members)
  pub this : ready_of p x.members ≡ Some m
  pub others : (q : ℕ) → q ≢ p → ready_of q x.members ≡ ready_of q b.members

abbrev pub Moves : Bool → ℕ → ℕ → BoardValue → BoardValue → Type 0
Moves at_bottom p m b x = is_listed p b.members ≡ true → HasMoved at_bottom p m b x

-- ---- all boards

-- it becomes so, where that is to be, and else stays
abbrev pub IsThen : Bool → (BoardValue → BoardValue → Type 0) → BoardValue → BoardValue → Type 0
IsThen false Becomes b x = x ≡ b
IsThen true Becomes b x = Becomes b x

-- what the board at an index becomes by a command, where the word has the boards of the person whom it names
abbrev pub BecomesBy : Cmd → NamedIndexes → ℕ → ℕ → BoardValue → BoardValue → Type 0
BecomesBy (cmd.Board board extra place) n word j b x = IsThen (is_of j n.board) (SetsUp extra place) b x
BecomesBy (cmd.List p board) n word j b x = IsThen (is_of j n.board) (TakesOn p n.ready) b x
BecomesBy (cmd.Unlist p board) n word j b x = IsThen (is_of j n.board) (LetsGo p) b x
BecomesBy (cmd.MarkOn p) n word j b x = IsThen (has_board word j) (Moves true p n.ready) b x
BecomesBy (cmd.Decline vac p) n word j b x = IsThen (has_board word j) (Moves (is_of j n.board) p n.ready) b x
BecomesBy (cmd.Past p event) n word j b x = IsThen (has_board word j) (Moves false p n.ready) b x
BecomesBy (cmd.Happened p event) n word j b x = IsThen (has_board word j) (Moves (is_final_at b.place event) p n.ready) b x
BecomesBy other n word j b x = x ≡ b

-- each board becomes so
abbrev pub EachBecomes : (ℕ → BoardValue → BoardValue → Type 0) → List BoardValue → List BoardValue → Type 0
EachBecomes Becomes old new = (j : ℕ) (b : BoardValue) → slice_get old j ≡ Some b → (x : BoardValue) × ((slice_get new j ≡ Some x) × Becomes j b x)

-- ---- who is on which

-- whether the person at one index is on the board at another after a command, where they were so before
abbrev pub put_by_both : Cmd → Option ℕ → Option ℕ → ℕ → ℕ → Bool → Bool
put_by_both (cmd.List p board) (Some person) (Some at) i j was = set_at person at true i j was
put_by_both (cmd.Unlist p board) (Some person) (Some at) i j was = set_at person at false i j was
put_by_both other person at i j was = was

abbrev pub put_by : Cmd → NamedIndexes → ℕ → ℕ → Bool → Bool
put_by c n i j was = put_by_both c n.person n.board i j was

-- the indexes that are named are among those of so many persons, and of the boards
abbrev pub AreWithin : ℕ → NamedIndexes → Type 0
AreWithin many n = IfSome n.person (λ i. i < many) × IfSome n.board (λ j. j < BOARD_LIMIT)

-- they are for a command that puts somebody on a board or takes them off
abbrev pub HasRoom : Cmd → ℕ → NamedIndexes → Type 0
HasRoom (cmd.List p board) many n = AreWithin many n
HasRoom (cmd.Unlist p board) many n = AreWithin many n
HasRoom other many n = ⊤
