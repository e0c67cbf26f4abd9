-- The rule of a wall's logbook, whose log is the wall's list, and what the step tells that adds an entry.
use Rattle.std.specs.Prelude.{◌≡◌, ℕ, ◌==◌, true, List, [], ◌∷◌, ◌++◌, length, MatchBool}
use Rattle.logbook.specs.Pages.{Cell, Step, View, Book, Named}
use Rattle.desk_model.specs.statements.Entry.{EntryValue}

-- the first word is the length of the list. A logbook has two words, of which this one leaves the second at 0
pub record IsKept (cells : List Cell) (log : List EntryValue) : Type 0 where
  pub words : cells ≡ (length log, true) ∷ (0, true) ∷ []

abbrev pub head_of : Book → Named
head_of b = record { tracked = true; key = 0; book = b }

-- the entry was added to all that had been seen; or the list was longer
abbrev pub Adds : Step EntryValue → View EntryValue ℕ → ℕ → View EntryValue ℕ → Type 0
Adds s v found w = MatchBool (found == s.old) (w.0 ≡ v.0 ++ s.ask ∷ []) (Unit {0})
