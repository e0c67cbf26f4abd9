-- What is said of the book of a gate that is closed, and of its seats.
use Rattle.std.proofs.Common.{◌≡◌, ◌≤◌, ℕ, suc, List, [], ◌∷◌, ◌++◌, map, refl, sym, ap, ◌∙◌, Option, Some}
use mathlib.Core.Option.{some, some-injective}
use lib.ListN.{get_elem?}
use Rattle.std.specs.List.{All}
use Rattle.std.proofs.lemmas.List.Elements.{All-nil, All-cons}
use Rattle.turn_gate.specs.declared.note.Note.{Note}
use Rattle.turn_gate.specs.declared.start.Start.{Start}
use Rattle.turn_gate.specs.declared.told.Told.{Told}
use Rattle.turn_gate.specs.declared.view.View.{View}
use Rattle.turn_gate.specs.Notes.{IsNote}
use Rattle.turn_gate.specs.Seats.{SeatValue, noted}
use Rattle.turn_gate.specs.Turns.{Knows}
use Rattle.turn_gate.proofs.Keeps.{IsClosed}

-- a seat's note tells what it knows
pub all-know : (seats : ℕ) (now : Told) (l : List SeatValue) → ((m : ℕ) (a : Note) → get_elem? (map noted l) m ≡ some a → IsNote seats now a) → All (Knows now.entries) l
all-know seats now [] each = All-nil (Knows now.entries)
all-know seats now (x ∷ l) each =
    All-cons (Knows now.entries) x l (let note = each 0 (noted x) refl in record { known = note.known; own = note.own }) (all-know seats now l (λ m a at. each (suc m) a at))

-- and how much of it as sure
pub all-sure : (seats : ℕ) (now : Told) (l : List SeatValue) → ((m : ℕ) (a : Note) → get_elem? (map noted l) m ≡ some a → IsNote seats now a) → All (λ seat. seat.sure ≤ now.sure) l
all-sure seats now [] each = All-nil (λ (seat : SeatValue). seat.sure ≤ now.sure)
all-sure seats now (x ∷ l) each = All-cons (λ (seat : SeatValue). seat.sure ≤ now.sure) x l (each 0 (noted x) refl).sure (all-sure seats now l (λ m a at. each (suc m) a at))

-- the notes that are rejoined come in the order of their seats
pub noted-more : (l m : List SeatValue) (x : SeatValue) (rest all : List Note) → m ≡ l ++ x ∷ [] → map noted m ++ rest ≡ all → map noted l ++ noted x ∷ rest ≡ all
noted-more l m x rest all is was = sym (split l) ∙ (ap (λ (n : List SeatValue). map noted n ++ rest) (sym is) ∙ was)
  where
    split : (n : List SeatValue) → map noted (n ++ x ∷ []) ++ rest ≡ map noted n ++ noted x ∷ rest
    split [] = refl
    split (y ∷ n) = ap (λ (z : List Note). noted y ∷ z) (split n)

-- the book is what was found in the slot
pub found-book : {B : Type 0} (tell : B → Told) (k : Start) (v : View) (xs : List (Option B)) (slot : Option B) (closed : IsClosed tell k v xs) → get_elem? xs 0 ≡ some slot → slot ≡ Some closed.book
found-book tell k v xs slot closed at = some-injective slot (Some closed.book) (sym at ∙ closed.at)
