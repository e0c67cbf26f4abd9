-- Ranks: the order of a board as numbers of entries.
use Rattle.std.specs.Prelude.{◌≡◌, ℕ, ◌<◌, Bool, true, false, nat_eq, Option, None, Some, if◌then◌else◌, List, [], ◌∷◌, ⊤}
use Rattle.std.specs.List.{list_any}
use Rattle.desk_model.specs.histories.History.{History, Step, steps, entry_no, last_of}
use Rattle.desk_model.specs.boards.Boards.{is_on, sent}

-- it is this number
abbrev pub is_number : ℕ → Option ℕ → Bool
is_number n None = false
is_number n (Some other) = nat_eq n other

-- the number of a step that sends the person to the bottom of the board
abbrev pub sends_at : List ℕ → ℕ → Step → Option ℕ
sends_at b p s = if is_number p (sent b s) then Some (entry_no s) else None

-- the rank of a person on a board: the number of the last entry that sent them to its bottom
abbrev pub rank : History → List ℕ → ℕ → Option ℕ
rank h b p = last_of (sends_at b p) (steps h)

-- the person has a rank, and it is below that of the other
abbrev pub IsBefore : Option ℕ → Option ℕ → Type 0
IsBefore (Some place) (Some other) = place < other
IsBefore one other = ⊥

-- each one's rank is below the ranks of those who stand behind
abbrev pub Rises : (ℕ → Option ℕ) → List ℕ → Type 0
Rises ranked [] = ⊤
Rises ranked (p ∷ ps) = ((q : ℕ) → list_any (nat_eq q) ps ≡ true → IsBefore (ranked p) (ranked q)) × Rises ranked ps

-- nobody stands twice
abbrev pub IsOnce : List ℕ → Type 0
IsOnce [] = ⊤
IsOnce (p ∷ ps) = (list_any (nat_eq p) ps ≡ false) × IsOnce ps

-- the list has just those who are on the board, by rising rank
pub record IsByRank (h : History) (b : List ℕ) (ps : List ℕ) : Type 0 where
  pub those : (p : ℕ) → list_any (nat_eq p) ps ≡ is_on h p b
  pub rising : Rises (rank h b) ps
