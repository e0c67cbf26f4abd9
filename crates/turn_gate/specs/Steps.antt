-- What a view becomes at each kind of step, and what the step tells.
use Rattle.std.specs.Prelude.{◌≡◌, ◌≢◌, ℕ, zero, suc, ◌+◌, ◌<◌, ◌≤◌, max, List, [], ◌∷◌, ◌++◌, length, map, Option, Some}
use mathlib.Core.Option.{some}
use lib.ListN.{get_elem?}
use Rattle.atomic_table.specs.Table.{Me, Step}
use Rattle.desk_base.specs.Window.{window_of}
use Rattle.desk_model.specs.statements.Entry.{EntryValue}
use Rattle.desk_model.specs.histories.Mark.{no_wall}
use Rattle.desk_model.specs.statements.Opening.{opening_of}
use Rattle.desk_model.specs.declared.edition.Edition.TheVariants.{One}
use Rattle.turn_gate.specs.declared.note.Note.{Note}
use Rattle.turn_gate.specs.declared.phase.Phase.TheVariants.{Idle, Waiting, Turn}
use Rattle.turn_gate.specs.declared.start.Start.{Start}
use Rattle.turn_gate.specs.declared.told.Told.{Told}
use Rattle.turn_gate.specs.declared.view.View.{View}
use Rattle.turn_gate.specs.Told.{start_of, end, IsBookOf}
use Rattle.turn_gate.specs.Notes.{IsNote}

abbrev pub note_of : ℕ → List EntryValue → ℕ → Note
note_of number known sure = record { number = number; known = known; sure = sure }

-- so many notes with rising numbers, each of the same book
abbrev pub notes_from : ℕ → ℕ → Told → List Note
notes_from number zero book = []
notes_from number (suc count) book = note_of number book.entries book.sure ∷ notes_from (number + 1) count book

-- the first view has the notes of all seats
abbrev pub first_view : Start → View
first_view k = record { notes = notes_from 1 k.seats k.book; calls = 0; phase = Idle; start = k }

-- a ticket is drawn
abbrev pub waits : View → ℕ → View
waits v ticket = record v { calls = v.calls + 1; phase = Waiting ticket }

abbrev pub drew : {B : Type 0} → Step (Option B) → Me (Option B) View → ℕ → Me (Option B) View → Type 0
drew st m ticket m' = (m'.1 ≡ m.1) × (m'.0 ≡ waits m.0 ticket)

-- the ticket is served, and the book is taken
abbrev pub turns : View → ℕ → Told → View
turns v ticket taken = record v { phase = Turn ticket taken }

-- what is known of the book that is taken
pub record IsTaken (v : View) (ticket : ℕ) (book : Told) : Type 0 where
  pub place : ticket < end v.start
  pub long : length book.entries ≡ ticket
  pub of_gate : IsBookOf v.start book
  pub notes : (m : ℕ) (a : Note) → get_elem? v.notes m ≡ some a → IsNote v.start.seats book a

-- with the ticket that is served the book is taken, with another nothing changes
pub record Looked {B : Type 0} (tell : B → Told) (m : Me (Option B) View) (ticket found : ℕ) (m' : Me (Option B) View) : Type 0 where
  pub mine : found ≡ ticket → (b : B) × (m'.0 ≡ turns m.0 ticket (tell b)) × (m'.1 ≡ (0, Some b) ∷ m.1) × IsTaken m.0 ticket (tell b)
  pub other : found ≢ ticket → m' ≡ m

abbrev pub found_served : {B : Type 0} → (B → Told) → Step (Option B) → Me (Option B) View → ℕ → Me (Option B) View → Type 0
found_served tell st m found m' = (found ≤ end m.0.start) × ((ticket : ℕ) → m.0.phase ≡ Waiting ticket → Looked tell m ticket found m')

-- the book is back, and its list is known, and how much of it is sure
abbrev pub knows : Told → Note → Note
knows now a = note_of a.number now.entries now.sure

abbrev pub passes : View → Told → View
passes v now = record v { notes = map (knows now) v.notes; phase = Idle }

abbrev pub passed : {B : Type 0} → (B → Told) → Step (Option B) → Me (Option B) View → ℕ → Me (Option B) View → Type 0
passed tell st m found m' = (m'.1 ≡ []) × ((b : _) → m.1 ≡ (0, Some b) ∷ [] → m'.0 ≡ passes m.0 (tell b))

-- so many entries are told to be sure, and who tells it knows no more than before
abbrev pub tells : {B : Type 0} → Step (Option B) → Me (Option B) View → ℕ → Me (Option B) View → Type 0
tells st m found m' = m' ≡ m

-- and who hears it knows it
abbrev pub heard : ℕ → Note → Note
heard sure a = note_of a.number a.known (max a.sure sure)

abbrev pub hears : View → ℕ → View
hears v sure = record v { notes = map (heard sure) v.notes }

abbrev pub heard_sure : {B : Type 0} → Step (Option B) → Me (Option B) View → ℕ → Me (Option B) View → Type 0
heard_sure st m found m' = (m'.1 ≡ m.1) × (m'.0 ≡ hears m.0 found)

-- the first note goes to a seat of its own
abbrev pub first_note : List Note → List Note
first_note [] = []
first_note (a ∷ others) = a ∷ []

abbrev pub other_notes : List Note → List Note
other_notes [] = []
other_notes (a ∷ others) = others

abbrev pub kept : View → View
kept v = record v { notes = other_notes v.notes }

abbrev pub dealt : View → View
dealt v = record v { notes = first_note v.notes }

-- the notes and the calls of two seats together
abbrev pub joined : View → View → View
joined v w = record v { notes = w.notes ++ v.notes; calls = w.calls + v.calls }

-- a view with nothing, and so of no gate
abbrev pub nothing : Told
nothing = record { opening = opening_of 0 (window_of 0 0) 0 One; entries = []; room = 0; wall = record { mark = no_wall }; sure = 0 }

abbrev pub spent : View
spent = record { notes = []; calls = 0; phase = Idle; start = start_of 0 0 nothing }
