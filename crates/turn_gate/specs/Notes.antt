-- What is counted over views, and what a note and a phase say.
use Rattle.std.specs.Prelude.{◌≡◌, ℕ, ◌+◌, ◌<◌, ◌≤◌, ◌==◌, List, [], ◌∷◌, length, if◌then◌else◌}
use mathlib.Core.List.{IsPrefix}
use Rattle.turn_gate.specs.declared.note.Note.{Note}
use Rattle.turn_gate.specs.declared.phase.Phase.{Phase}
use Rattle.turn_gate.specs.declared.phase.Phase.TheVariants.{Idle, Waiting, Turn}
use Rattle.turn_gate.specs.declared.told.Told.{Told}
use Rattle.turn_gate.specs.declared.view.View.{View}
use Rattle.turn_gate.specs.Told.{own, IsNumber}

-- of each, added up
abbrev pub total : {A : Type 0} → (A → ℕ) → List A → ℕ
total f [] = 0
total f (x ∷ xs) = f x + total f xs

-- how many notes of a view have a number, how many it has, how many tickets it drew, and how many of them are not served yet
abbrev pub is_numbered : ℕ → Note → ℕ
is_numbered number a = if a.number == number then 1 else 0

abbrev pub numbered : ℕ → View → ℕ
numbered number v = total (is_numbered number) v.notes

abbrev pub notes : View → ℕ
notes v = length v.notes

abbrev pub calls : View → ℕ
calls v = v.calls

abbrev pub busy_in : Phase → ℕ
busy_in Idle = 0
busy_in (Waiting ticket) = 1
busy_in (Turn ticket taken) = 1

abbrev pub busy : View → ℕ
busy v = busy_in v.phase

-- the ticket of a phase
abbrev pub HasTicket : Phase → ℕ → Type 0
HasTicket Idle ticket = ⊥
HasTicket (Waiting mine) ticket = mine ≡ ticket
HasTicket (Turn mine taken) ticket = mine ≡ ticket

abbrev pub IsTurn : Phase → Type 0
IsTurn Idle = ⊥
IsTurn (Waiting ticket) = ⊥
IsTurn (Turn ticket taken) = Unit {0}

-- Histories: a note's list begins the book's, which has no more entries of its seat, and no fewer that are sure
pub record IsNote (seats : ℕ) (now : Told) (a : Note) : Type 0 where
  pub number : IsNumber seats a.number
  pub known : IsPrefix a.known now.entries
  pub own : own now.entries a.number ≡ own a.known a.number
  pub sure : a.sure ≤ now.sure

-- Tickets and Turn: who has a ticket has one note; the ticket is not before the one that is served, and was drawn; the
-- turn is that of the ticket that is served, and the book was taken as it is
abbrev pub IsPhase : ℕ → ℕ → Told → ℕ → Phase → Type 0
IsPhase next serving now count Idle = Unit {0}
IsPhase next serving now count (Waiting ticket) = (count ≡ 1) × (serving ≤ ticket) × (ticket < next)
IsPhase next serving now count (Turn ticket taken) = (count ≡ 1) × (ticket ≡ serving) × (ticket < next) × (taken ≡ now)
