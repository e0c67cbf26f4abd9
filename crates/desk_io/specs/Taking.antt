use Rattle.std.specs.Prelude.{ℕ, List, [], ◌∷◌, length, take, drop, min, ⊤}
use Rattle.std.specs.declared.option.Option.{Option}
use Rattle.std.specs.Io.KnownBytes.{Consumes, Keeps, IsAtEnd}
use Rattle.desk_io.specs.declared.taking.Taking.{Taking}
use Rattle.desk_io.specs.declared.taking.Taking.TheVariants.{Got, End, Failed}
use Rattle.desk_io.specs.Faults.{one_more}
use Rattle.desk_io.specs.Piece.{FitsPiece}

-- what a source got fits the piece that it was asked for
abbrev pub TakesPiece : Taking → ℕ → Type 0
TakesPiece (Got count) len = FitsPiece count len
TakesPiece End len = ⊤
TakesPiece Failed len = ⊤

-- what a source got is at the front of the piece and of what was left; else what was left stays
abbrev pub Moves : Option (List ℕ) → Option (List ℕ) → Taking → List ℕ → Type 0
Moves old new (Got count) into = Consumes old new (take count into)
Moves old new End into = IsAtEnd old × Keeps old new
Moves old new Failed into = Keeps old new

-- the answer of a source that gives as many bytes as it can, up to so many
abbrev pub full_answer : List ℕ → ℕ → Taking
full_answer [] most = End
full_answer (byte ∷ left) most = Got (min most (length (byte ∷ left)))

-- what is left after an answer
abbrev pub left_after : Taking → List ℕ → List ℕ
left_after (Got count) left = drop count left
left_after End left = left
left_after Failed left = left

-- the count of faults after an answer
abbrev pub faults_after : Taking → ℕ → ℕ
faults_after (Got count) faults = faults
faults_after End faults = faults
faults_after Failed faults = one_more faults
