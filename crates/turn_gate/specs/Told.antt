-- What contracts see of a book and of how a gate began, and what a book keeps that goes through the gate's turns.
use Rattle.std.specs.Prelude.{◌≡◌, ℕ, ◌+◌, ◌*◌, ◌≤◌, ◌==◌, List, ◌++◌, length, filter}
use Rattle.std.specs.List.{All}
use Rattle.desk_model.specs.statements.Entry.{EntryValue}
use Rattle.desk_model.specs.histories.History.{History}
use Rattle.desk_model.specs.histories.Mark.{Mark}
use Rattle.turn_gate.specs.declared.start.Start.{Start}
use Rattle.turn_gate.specs.declared.terms.Terms.{Terms}
use Rattle.turn_gate.specs.declared.told.Told.{Told}

-- what a book tells of itself
abbrev pub told : {B : Type 0} → (B → History) → (B → ℕ) → (B → Mark) → (B → ℕ) → B → Told
told history room mark sure b = record { opening = (history b).opening; entries = (history b).entries; room = room b; wall = record { mark = mark b }; sure = sure b }

abbrev pub start_of : ℕ → ℕ → Told → Start
start_of seats quota book = record { seats = seats; quota = quota; book = book }

-- how a gate begins that is made with these terms
abbrev pub start_from : {B : Type 0} → (B → Told) → Terms B → Start
start_from tell terms = start_of terms.seats terms.quota (tell terms.book.value)

-- at which place the gate's first turn is, and before which all its turns are
abbrev pub base : Start → ℕ
base k = length k.book.entries

abbrev pub end : Start → ℕ
end k = base k + k.seats * k.quota

-- the entries of one caller, in order
abbrev pub own : List EntryValue → ℕ → List EntryValue
own entries number = filter (λ e. e.caller == number) entries

-- the number of one of so many seats
abbrev pub IsNumber : ℕ → ℕ → Type 0
IsNumber seats number = (1 ≤ number) × (number ≤ seats)

-- the book has the starting book's opening, room and mark; its list begins with the starting book's, and the caller of
-- each later entry is the number of a seat
pub record IsBookOf (k : Start) (book : Told) : Type 0 where
  pub opening : book.opening ≡ k.book.opening
  pub room : book.room ≡ k.book.room
  pub wall : book.wall ≡ k.book.wall
  pub later : List EntryValue
  pub begins : k.book.entries ++ later ≡ book.entries
  pub callers : All (λ e. IsNumber k.seats e.caller) later
