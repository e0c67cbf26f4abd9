-- The texts that a session puts on a line beside the lines of entries.
use Rattle.std.specs.Prelude.{ℕ, List, [], ◌∷◌, ◌++◌, codes, decimal}

-- a line of this text
abbrev pub with_feed : List ℕ → List ℕ
with_feed text = text ++ 10 ∷ []

-- the line gave one line more than may be heard
abbrev pub too_many : List ℕ
too_many = with_feed (codes "too many")

-- it gave a line of more than 512 bytes
abbrev pub too_long : List ℕ
too_long = with_feed (codes "too long")

-- memory was wanting for the reading of a line
abbrev pub no_memory : List ℕ
no_memory = with_feed (codes "no memory")

-- it gave a line that states no command, and this is its first wrong field, or 0
abbrev pub malformed : ℕ → List ℕ
malformed field = with_feed (codes "malformed " ++ decimal field)

-- it gave a command, and its entry could not be kept
abbrev pub journal_fault : List ℕ
journal_fault = with_feed (codes "journal fault")

-- it gave a command, and the seat has no call left
abbrev pub spent : List ℕ
spent = with_feed (codes "spent")
