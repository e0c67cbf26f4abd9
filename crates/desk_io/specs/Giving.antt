use Rattle.std.specs.Prelude.{ℕ, ◌<◌, List, ◌++◌, length, take, ⊤}
use Rattle.std.specs.declared.option.Option.{Option}
use Rattle.std.specs.Io.KnownBytes.{Appends, Keeps}
use Rattle.desk_io.specs.declared.giving.Giving.{Giving}
use Rattle.desk_io.specs.declared.giving.Giving.TheVariants.{Took, Failed}
use Rattle.desk_io.specs.Faults.{one_more}
use Rattle.desk_io.specs.Piece.{FitsPiece}

-- what a sink took fits the piece that it was given
abbrev pub TakesPiece : Giving → ℕ → Type 0
TakesPiece (Took count) len = FitsPiece count len
TakesPiece Failed len = ⊤

-- what a sink took from the front of the piece is added to what it held; else that stays
abbrev pub Adds : Option (List ℕ) → Option (List ℕ) → Giving → List ℕ → Type 0
Adds old new (Took count) from = Appends old new (take count from)
Adds old new Failed from = Keeps old new

-- a sink took some bytes from the front of these, and not all
pub record AddsFront (old new : Option (List ℕ)) (bytes : List ℕ) : Type 0 where
  pub count : ℕ
  pub within : count < length bytes
  pub added : Appends old new (take count bytes)

-- what is held after an answer to a piece
abbrev pub held_after : Giving → List ℕ → List ℕ → List ℕ
held_after (Took count) held from = held ++ take count from
held_after Failed held from = held

-- the count of faults after an answer
abbrev pub faults_after : Giving → ℕ → ℕ
faults_after (Took count) faults = faults
faults_after Failed faults = one_more faults
