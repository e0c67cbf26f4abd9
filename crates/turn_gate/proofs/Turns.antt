-- From what the steps of a call tell to what is said of its seat, its turn and the book.
use Rattle.std.proofs.Common.{◌≡◌, ◌≤◌, ℕ, ◌+◌, List, [], ◌∷◌, refl, sym, ap, ◌∙◌, subst, Option, Some, None}
use Rattle.atomic_table.specs.Table.{Me, rest}
use Rattle.desk_model.specs.statements.Entry.{EntryValue}
use Rattle.turn_gate.specs.declared.start.Start.{Start}
use Rattle.turn_gate.specs.declared.told.Told.{Told}
use Rattle.turn_gate.specs.declared.view.View.{View}
use Rattle.turn_gate.specs.Told.{IsNumber}
use Rattle.turn_gate.specs.Steps.{waits, turns, passes, IsTaken, Looked}
use Rattle.turn_gate.specs.Seats.{SeatValue, TurnValue, seated, turned, known_in, sure_in, taken_in}
use Rattle.turn_gate.specs.Turns.{Knows}

abbrev pub view_of : SeatValue → View
view_of seat = seated seat.number seat.known seat.sure seat.calls seat.start

module _ {S : Type 0} where
  -- a seat that has drawn a ticket
  pub is-waiting : (seat : SeatValue) (ticket : ℕ) (was drawn now : Me S View) → was ≡ (view_of seat, []) → (drawn.1 ≡ was.1) × (drawn.0 ≡ waits was.0 ticket) → now ≡ drawn → now ≡ (waits (view_of seat) ticket, [])
  is-waiting seat ticket was drawn now is drew same = same ∙ (λ i. ((drew.1 ∙ ap (λ m. waits m.0 ticket) is) i, (drew.0 ∙ ap (λ m. m.1) is) i))

  -- the fields of a seat and of a turn are those of its view
  pub seated-itself : (me : Me S View) (number same sure calls : ℕ) (known : List EntryValue) (start : Start) → me ≡ (seated number known sure calls start, []) → same ≡ number → me ≡ (seated same (known_in me.0.notes) (sure_in me.0.notes) me.0.calls me.0.start, [])
  seated-itself me number same sure calls known start is eq = is ∙ (ap (λ n. (seated n known sure calls start, [])) (sym eq) ∙ ap (λ m. (seated same (known_in m.0.notes) (sure_in m.0.notes) m.0.calls m.0.start, [])) (sym is))

  pub turned-itself : (me : Me S View) (number same sure calls place : ℕ) (known : List EntryValue) (taken : Told) (start : Start) (carried : List (ℕ × S)) → me ≡ (turned number known sure calls start place taken, carried) → same ≡ number
      → me ≡ (turned same (known_in me.0.notes) (sure_in me.0.notes) me.0.calls me.0.start place (taken_in me.0), carried)
  turned-itself me number same sure calls place known taken start carried is eq =
      is ∙ (ap (λ n. (turned n known sure calls start place taken, carried)) (sym eq) ∙ ap (λ m. (turned same (known_in m.0.notes) (sure_in m.0.notes) m.0.calls m.0.start place (taken_in m.0), carried)) (sym is))

module _ {B : Type 0} where
  abbrev carried_or : Option B → List (ℕ × Option B) → Option B
  carried_or d [] = d
  carried_or d (x ∷ xs) = x.1

  -- what is read from the slot is what was carried
  pub found-is : (carried : List (ℕ × Option B)) (found : Option B) (b : B) → carried ≡ (0, found) ∷ rest carried → carried ≡ (0, Some b) ∷ [] → found ≡ Some b
  found-is carried found b is was = ap (carried_or found) (sym is ∙ was)

  -- a turn with the book that is given back
  pub put-back : (turn : TurnValue) (known : List EntryValue) (sure : ℕ) (me me' : Me (Option B) View) (b : B) → me ≡ (turned turn.number known sure turn.calls turn.start turn.place turn.taken, (0, None) ∷ []) → me' ≡ (me.0, (0, Some b) ∷ rest me.1)
      → me' ≡ (turned turn.number known sure turn.calls turn.start turn.place turn.taken, (0, Some b) ∷ [])
  put-back turn known sure me me' b is after = after ∙ ap (λ (m : Me (Option B) View). (m.0, (0, Some b) ∷ rest m.1)) is

module _ {B : Type 0} (tell : B → Told) where
  -- the seat's ticket is served, and it has the book
  pub record IsServed (seat : SeatValue) (ticket : ℕ) (me : Me (Option B) View) (b : B) : Type 0 where
    pub view : me.0 ≡ turned seat.number seat.known seat.sure (seat.calls + 1) seat.start ticket (tell b)
    pub carried : me.1 ≡ (0, Some b) ∷ []
    pub taken : IsTaken (waits (view_of seat) ticket) ticket (tell b)

  pub served : (seat : SeatValue) (ticket found : ℕ) (me me' : Me (Option B) View) → me ≡ (waits (view_of seat) ticket, []) → Looked tell me ticket found me' → found ≡ ticket → (b : B) × IsServed seat ticket me' b
  served seat ticket found me me' is look same = let took = look.mine same in (
    took.0,
    record {
      view = took.1 ∙ ap (λ m. turns m.0 ticket (tell took.0)) is;
      carried = took.2 ∙ ap (λ (m : Me (Option B) View). (0, Some took.0) ∷ m.1) is;
      taken = subst (λ (m : Me (Option B) View). IsTaken m.0 ticket (tell took.0)) is took.3;
    },
  )

  -- the turn that it has then
  pub taken-out : (seat : SeatValue) (ticket : ℕ) (me me' : Me (Option B) View) (b : B) → IsServed seat ticket me b → me' ≡ (me.0, (0, None) ∷ rest me.1)
      → me' ≡ (turned seat.number seat.known seat.sure (seat.calls + 1) seat.start ticket (tell b), (0, None) ∷ [])
  taken-out seat ticket me me' b is after = after ∙ (λ i. (is.view i, (0, None) ∷ rest (is.carried i)))

  pub knows-taken : (seat : SeatValue) (ticket : ℕ) (me : Me (Option B) View) (b : B) → IsServed seat ticket me b → Knows (tell b).entries seat
  knows-taken seat ticket me b is = let note = is.taken.notes 0 _ refl in record { known = note.known; own = note.own }

  pub sure-taken : (seat : SeatValue) (ticket : ℕ) (me : Me (Option B) View) (b : B) → IsServed seat ticket me b → seat.sure ≤ (tell b).sure
  sure-taken seat ticket me b is = (is.taken.notes 0 _ refl).sure

  pub numbered-taken : (seat : SeatValue) (ticket : ℕ) (me : Me (Option B) View) (b : B) → IsServed seat ticket me b → IsNumber seat.start.seats seat.number
  numbered-taken seat ticket me b is = (is.taken.notes 0 _ refl).number

  -- the seat after its turn
  pub given : (turn : TurnValue) (known : List EntryValue) (sure : ℕ) (me me' : Me (Option B) View) (b : B) → me ≡ (turned turn.number known sure turn.calls turn.start turn.place turn.taken, (0, Some b) ∷ [])
      → (me'.1 ≡ []) × ((c : B) → me.1 ≡ (0, Some c) ∷ [] → me'.0 ≡ passes me.0 (tell c)) → me' ≡ (seated turn.number (tell b).entries (tell b).sure turn.calls turn.start, [])
  given turn known sure me me' b is passed = let now = passed.1 b (ap (λ m. m.1) is) ∙ ap (λ m. passes m.0 (tell b)) is in λ i. (now i, passed.0 i)
