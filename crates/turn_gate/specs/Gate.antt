-- The gate's rule: what holds of its three words, its slot and what the seats know, between any two steps of any threads.
use Rattle.std.specs.Prelude.{◌≡◌, ℕ, ◌+◌, ◌*◌, ◌<◌, ◌≤◌, ◌⊎◌, List, [], ◌∷◌, length, Option, Some}
use mathlib.Core.Option.{some, none}
use mathlib.Core.Option as maybe
use lib.ListN.{get_elem?}
use Rattle.atomic_table.specs.Table.{State}
use Rattle.turn_gate.specs.declared.note.Note.{Note}
use Rattle.turn_gate.specs.declared.start.Start.{Start}
use Rattle.turn_gate.specs.declared.told.Told.{Told}
use Rattle.turn_gate.specs.declared.view.View.{View}
use Rattle.turn_gate.specs.Told.{base, IsBookOf}
use Rattle.turn_gate.specs.Notes.{total, numbered, notes, calls, busy, HasTicket, IsTurn, IsNote, IsPhase}

-- a view: Histories, of each of its notes; at most the quota of calls for each note; Turn and Tickets, by its phase. Only a
-- view with a note is of the gate
pub record IsView (k : Start) (next serving : ℕ) (now : Told) (v : View) : Type 0 where
  pub start : 0 < length v.notes → v.start ≡ k
  pub notes : (m : ℕ) (a : Note) → get_elem? v.notes m ≡ some a → IsNote k.seats now a
  pub calls : v.calls ≤ k.quota * length v.notes
  pub phase : IsPhase next serving now (length v.notes) v.phase

-- the book is at home, as it is told, and nobody has the turn
pub record IsHome {B : Type 0} (tell : B → Told) (homes : List (maybe.Option (Option B))) (views : List View) (now : Told) : Type 0 where
  pub book : B
  pub home : homes ≡ some (Some book) ∷ []
  pub told : tell book ≡ now
  pub nobody : (j : ℕ) (v : View) → get_elem? views j ≡ some v → ¬ IsTurn v.phase

-- the book is out, with whoever has the turn
pub record IsOut {B : Type 0} (homes : List (maybe.Option (Option B))) (views : List View) : Type 0 where
  pub away : homes ≡ none ∷ []
  pub seat : ℕ
  pub view : View
  pub there : get_elem? views seat ≡ some view
  pub turn : IsTurn view.phase

-- `now` is what is told of the book: at home, or as it was taken. A seat takes the slot by the look that finds its ticket served,
-- and brings it back by the step that serves the next, so whoever has the turn has the book, or what it has become
pub record Gated {B : Type 0} (tell : B → Told) (k : Start) (s : State (Option B) View) : Type 0 where
  pub next : ℕ
  pub serving : ℕ
  pub told : ℕ
  pub now : Told
  -- the next ticket, the one that is served, and how many entries are told to be sure
  pub words : s.words ≡ next ∷ serving ∷ told ∷ []
  -- Notes: they have the numbers 1 to `seats`, each once; as many tickets were drawn as there were calls
  pub numbers : (number : ℕ) → 1 ≤ number → number ≤ k.seats → total (numbered number) s.views ≡ 1
  pub all_notes : total notes s.views ≡ k.seats
  pub all_calls : base k + total calls s.views ≡ next
  -- Tickets: those that were drawn and are not served are of as many views, each of another
  pub all_busy : serving + total busy s.views ≡ next
  pub each : (j : ℕ) (v : View) → get_elem? s.views j ≡ some v → IsView k next serving now v
  pub apart : (i j : ℕ) (v w : View) (ticket : ℕ) → get_elem? s.views i ≡ some v → get_elem? s.views j ≡ some w → HasTicket v.phase ticket → HasTicket w.phase ticket → i ≡ j
  -- Slot: empty exactly where a view has the turn; the book has as many entries as were served, and keeps what it began with
  pub slot : IsHome tell s.homes s.views now ⊎ IsOut s.homes s.views
  pub long : length now.entries ≡ serving
  pub book : IsBookOf k now
  -- no more are told to be sure than are
  pub sure : told ≤ now.sure
