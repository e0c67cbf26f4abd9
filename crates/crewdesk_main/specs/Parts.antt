-- The parts of a text that goes on: a journal, and the commands that it goes on with.
use Rattle.std.specs.Prelude.{ℕ, ◌==◌, Bool, true, false, ◌&&◌, if◌then◌else◌, List, [], ◌∷◌, drop}

-- a plus and a line feed come next
abbrev pub is_plus : List ℕ → Bool
is_plus [] = false
is_plus (a ∷ []) = false
is_plus (a ∷ b ∷ later) = a == 43 && b == 10

-- what stands before the first line that is just a plus, where a line begins here or doesn't; all where there is none
unfoldable pub before_plus : Bool → List ℕ → List ℕ
before_plus begins [] = []
before_plus begins (b ∷ later) = if begins && is_plus (b ∷ later) then [] else b ∷ before_plus (b == 10) later

-- what stands behind it; nothing where there is none
unfoldable pub behind_plus : Bool → List ℕ → List ℕ
behind_plus begins [] = []
behind_plus begins (b ∷ later) = if begins && is_plus (b ∷ later) then drop 1 later else behind_plus (b == 10) later

-- the part of a text that is a journal
abbrev pub journal_of : List ℕ → List ℕ
journal_of text = before_plus true text

-- and the part with commands
abbrev pub more_of : List ℕ → List ℕ
more_of text = behind_plus true text
