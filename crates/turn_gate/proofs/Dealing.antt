-- How the notes of a new gate are dealt to its seats, and come together again.
use Rattle.std.proofs.Common.{◌≡◌, ℕ, zero, suc, ◌+◌, ◌-◌, ◌<◌, List, [], ◌∷◌, ◌++◌, length, refl, sym, ap, ◌∙◌, subst, arith, add-one}
use Rattle.std.specs.List.{All}
use Rattle.std.proofs.lemmas.List.Elements.{All-nil, All-cons}
use Rattle.atomic_table.specs.Seated.{TableId}
use Rattle.atomic_table.specs.Table.{Me}
use Rattle.turn_gate.specs.declared.note.Note.{Note}
use Rattle.turn_gate.specs.declared.phase.Phase.TheVariants.{Idle}
use Rattle.turn_gate.specs.declared.start.Start.{Start}
use Rattle.turn_gate.specs.declared.told.Told.{Told}
use Rattle.turn_gate.specs.declared.view.View.{View}
use Rattle.turn_gate.specs.Steps.{note_of, notes_from, kept, dealt, other_notes, first_note}
use Rattle.turn_gate.specs.Seats.{GateValue, SeatValue, IsSeatOf, gate_of, new_seat, new_seats, seated, known_in, sure_in}

-- the view that has the notes still to deal
abbrev pub left_view : Start → ℕ → View
left_view k done = record { notes = notes_from (done + 1) (k.seats - done) k.book; calls = 0; phase = Idle; start = k }

pub new_seats-push : (gate : GateValue) (number count : ℕ) → new_seats gate number count ++ new_seat gate (number + count) ∷ [] ≡ new_seats gate number (suc count)
new_seats-push gate number zero = ap (λ (n : ℕ). new_seat gate n ∷ []) (omega arith)
new_seats-push gate number (suc count) =
    ap (λ (l : List SeatValue). new_seat gate number ∷ l)
    (ap (λ (n : ℕ). new_seats gate (number + 1) count ++ new_seat gate n ∷ []) (omega arith) ∙ new_seats-push gate (number + 1) count)

notes-next : (number left : ℕ) (book : Told) → 0 < left → notes_from number left book ≡ note_of number book.entries book.sure ∷ notes_from (number + 1) (left - 1) book
notes-next number zero book more = absurd (omega arith)
notes-next number (suc left) book more = ap (λ (n : ℕ). note_of number book.entries book.sure ∷ notes_from (number + 1) n book) (omega arith)

module _ (k : Start) (done : ℕ) (more : done < k.seats) where
  left : notes_from (done + 1) (k.seats - done) k.book ≡ note_of (done + 1) k.book.entries k.book.sure ∷ notes_from (done + 1 + 1) (k.seats - (done + 1)) k.book
  left = notes-next (done + 1) (k.seats - done) k.book (omega arith)
      ∙ ap (λ (n : ℕ). note_of (done + 1) k.book.entries k.book.sure ∷ notes_from (done + 1 + 1) n k.book) (omega arith)

  view : List Note → View
  view l = record { notes = l; calls = 0; phase = Idle; start = k }

  pub left-kept : kept (left_view k done) ≡ left_view k (done + 1)
  unfolding view
  left-kept = ap (λ (l : List Note). view (other_notes l)) left

  pub left-dealt : dealt (left_view k done) ≡ seated (done + 1) k.book.entries k.book.sure 0 k
  unfolding view
  left-dealt = ap (λ (l : List Note). view (first_note l)) left

  pub left-some : 0 < length (notes_from (done + 1) (k.seats - done) k.book)
  left-some = subst (λ (l : List Note). 0 < length l) (sym left) (omega arith)

pub length-new_seats : (gate : GateValue) (number count : ℕ) → length (new_seats gate number count) ≡ count
length-new_seats gate number zero = refl
length-new_seats gate number (suc count) = ap suc (length-new_seats gate (number + 1) count)

-- one seat more
pub pushed : {S : Type 0} (k : Start) (gate table : TableId) (done : ℕ) (made : List SeatValue) (me : Me S View) → made ≡ new_seats (gate_of gate k) 1 done → table ≡ gate → me ≡ (seated (done + 1) k.book.entries k.book.sure 0 k, [])
    → made ++ record { table = table; start = me.0.start; number = done + 1; known = known_in me.0.notes; calls = me.0.calls; sure = sure_in me.0.notes } ∷ [] ≡ new_seats (gate_of gate k) 1 (done + 1)
pushed k gate table done made me is same new =
    ap (λ (l : List SeatValue). l ++ record { table = table; start = me.0.start; number = done + 1; known = known_in me.0.notes; calls = me.0.calls; sure = sure_in me.0.notes } ∷ []) is
    ∙ (ap (λ (z : TableId). new_seats (gate_of gate k) 1 done ++ record { table = z; start = me.0.start; number = done + 1; known = known_in me.0.notes; calls = me.0.calls; sure = sure_in me.0.notes } ∷ []) same
    ∙ (ap (λ m. new_seats (gate_of gate k) 1 done ++ record { table = gate; start = m.0.start; number = done + 1; known = known_in m.0.notes; calls = m.0.calls; sure = sure_in m.0.notes } ∷ []) new
    ∙ (ap (λ (n : ℕ). new_seats (gate_of gate k) 1 done ++ new_seat (gate_of gate k) n ∷ []) number
    ∙ (new_seats-push (gate_of gate k) 1 done ∙ ap (new_seats (gate_of gate k) 1) (sym (add-one done))))))
  where
    number : done + 1 ≡ 1 + done
    number = omega arith

-- the seats of a new gate are its own
pub all-new : (gate : GateValue) (number count : ℕ) → All (IsSeatOf gate) (new_seats gate number count)
all-new gate number zero = All-nil (IsSeatOf gate)
all-new gate number (suc count) =
    All-cons (IsSeatOf gate) (new_seat gate number) (new_seats gate (number + 1) count) (refl, refl) (all-new gate (number + 1) count)
