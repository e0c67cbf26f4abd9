-- Each kind of step keeps the gate's rule, a new gate meets it, and what it says of a gate that is closed.
use Rattle.std.proofs.Common.{◌≡◌, ◌≢◌, ◌⊎◌, ℕ, zero, suc, ◌+◌, ◌*◌, ◌%◌, ◌^◌, ◌<◌, ◌≤◌, List, [], ◌∷◌, ◌++◌, length, map, get_or, set, refl, sym, ap, ◌∙◌, subst, ⊎_elim, inl, inr, Option, Some, unwrap_or, append_assoc, append-nil, length-append, mul-add, mul_comm, arith}
use mathlib.Core.Logic.{dite}
use mathlib.Core.Option.{none, some, some-injective, some-ne-none}
use mathlib.Core.Option as maybe
use native.Mathlib.Decide.{ℕ_discrete}
use lib.ListN.{get_elem?, length-map}
use Rattle.std.proofs.Math.Nat.{max-le}
use Rattle.std.specs.Prelude.{max}
use Rattle.std.proofs.lemmas.List.Elements.{All-cons, All-append}
use Rattle.atomic_table.specs.Table.{State, Me, step, Act, keeps, takes, gives, stepped, put_back, rest, homes_after, carried_after, Valid, Allows, Splits, Joins, Final, Seen}
use Rattle.atomic_table.specs.Table as table
use Rattle.atomic_table.proofs.Lists.{at_set, set_else, set_again, at_longer, at_snoc}
use Rattle.desk_model.specs.statements.Entry.{EntryValue}
use Rattle.turn_gate.specs.declared.note.Note.{Note}
use Rattle.turn_gate.specs.declared.phase.Phase.TheVariants.{Idle, Waiting, Turn}
use Rattle.turn_gate.specs.declared.start.Start.{Start}
use Rattle.turn_gate.specs.declared.told.Told.{Told}
use Rattle.turn_gate.specs.declared.view.View.{View}
use Rattle.turn_gate.specs.Told.{base, end, IsNumber, IsBookOf}
use Rattle.turn_gate.specs.Notes.{total, is_numbered, numbered, notes, calls, busy_in, busy, HasTicket, IsTurn, IsNote, IsPhase}
use Rattle.turn_gate.specs.Gate.{IsView, IsHome, IsOut, Gated}
use Rattle.turn_gate.specs.Steps.{first_view, waits, drew, turns, IsTaken, found_served, knows, passes, passed, tells, heard, hears, heard_sure, first_note, other_notes, kept, dealt, joined, spent}
use Rattle.turn_gate.specs.Turns.{IsLast}
use Rattle.turn_gate.proofs.Totals.{total-set, total-append, total-push, total-one, total-two, total-most}
use Rattle.turn_gate.proofs.Notes.{note-later, note-all, is_numbered-self, is_numbered-as, ticket-in, turn-ticket, turn-one, phase-drawn, phase-passed, length-notes_from, once_numbered, note-new}

module _ {A : Type 0} where
  set-there : (l : List A) (i : ℕ) (a b : A) → get_elem? l i ≡ some a → get_elem? (set l i b) i ≡ some b
  set-there [] i a b at = absurd (some-ne-none a (sym at))
  set-there (x ∷ xs) zero a b at = refl
  set-there (x ∷ xs) (suc i) a b at = set-there xs i a b at

  one-at : (l : List A) (i j : ℕ) (a b : A) → get_elem? l i ≡ some a → get_elem? l j ≡ some b → i ≡ j → a ≡ b
  one-at l i j a b at there same = some-injective a b (sym at ∙ (ap (get_elem? l) same ∙ there))

  at-single : (x : A) (i : ℕ) (a : A) → get_elem? (x ∷ []) i ≡ some a → (i ≡ 0) × (x ≡ a)
  at-single x zero a at = (refl, some-injective x a at)
  at-single x (suc i) a at = absurd (some-ne-none a (sym at))

  at-either : (l m : List A) (i : ℕ) (a : A) → get_elem? (l ++ m) i ≡ some a → ((j : ℕ) × (get_elem? l j ≡ some a)) ⊎ ((j : ℕ) × (get_elem? m j ≡ some a))
  at-either [] m i a at = inr (i, at)
  at-either (x ∷ xs) m zero a at = inl (zero, at)
  at-either (x ∷ xs) m (suc i) a at = ⊎_elim (λ (t : (j : ℕ) × (get_elem? xs j ≡ some a)). inl (suc t.0, t.1)) (λ (t : (j : ℕ) × (get_elem? m j ≡ some a)). inr t) (at-either xs m i a at)

-- a number that fits stays what it is as a word
one-more : (n : ℕ) → n < 4294967296 → (n + 1) % 2 ^ 64 ≡ n + 1
one-more n fits = omega arith

numbered-knows : (number : ℕ) (now : Told) (l : List Note) → total (is_numbered number) (map (knows now) l) ≡ total (is_numbered number) l
numbered-knows number now [] = refl
numbered-knows number now (a ∷ l) = ap (λ (n : ℕ). is_numbered number a + n) (numbered-knows number now l)

parted : (f : Note → ℕ) (l : List Note) → total f (other_notes l) + total f (first_note l) ≡ total f l
parted f [] = refl
parted f (a ∷ l) = omega arith

parted-length : (l : List Note) → length (other_notes l) + length (first_note l) ≡ length l
parted-length [] = refl
parted-length (a ∷ l) = omega arith

other-at : (l : List Note) (m : ℕ) (a : Note) → get_elem? (other_notes l) m ≡ some a → get_elem? l (suc m) ≡ some a
other-at [] m a at = absurd (some-ne-none a (sym at))
other-at (x ∷ l) m a at = at

first-at : (l : List Note) (m : ℕ) (a : Note) → get_elem? (first_note l) m ≡ some a → get_elem? l 0 ≡ some a
first-at [] m a at = absurd (some-ne-none a (sym at))
first-at (x ∷ l) m a at = ap some (at-single x m a at).1

module _ {B : Type 0} (tell : B → Told) (k : Start) where
  abbrev St : Type 0
  St = State (Option B) View

  abbrev Homes : Type 0
  Homes = List (maybe.Option (Option B))

  abbrev Rule : St → Type 0
  Rule = Gated tell k

  abbrev Slot : Homes → List View → Told → Type 0
  Slot homes views now = IsHome tell homes views now ⊎ IsOut homes views

  views-set : (P : View → Type 0) (views : List View) (id : ℕ) (w : View) → P w → ((j : ℕ) (u : View) → j ≢ id → get_elem? views j ≡ some u → P u)
      → (j : ℕ) (u : View) → get_elem? (set views id w) j ≡ some u → P u
  views-set P views id w mine others j u at = ⊎_elim (λ (t : (j ≡ id) × (w ≡ u)). subst P t.1 mine)
      (λ (t : (j ≢ id) × (get_elem? views j ≡ some u)). others j u t.0 t.1) (at_set views id j w u at)

  apart-set : (s : St) (r : Rule s) (id : ℕ) (w : View) → ((ticket j : ℕ) (u : View) → j ≢ id → get_elem? s.views j ≡ some u → HasTicket w.phase ticket → ¬ HasTicket u.phase ticket)
      → (i j : ℕ) (v u : View) (ticket : ℕ) → get_elem? (set s.views id w) i ≡ some v → get_elem? (set s.views id w) j ≡ some u → HasTicket v.phase ticket → HasTicket u.phase ticket → i ≡ j
  apart-set s r id w new i j v u ticket at there has too = ⊎_elim
      (λ (a : (i ≡ id) × (w ≡ v)). ⊎_elim (λ (b : (j ≡ id) × (w ≡ u)). a.0 ∙ sym b.0)
      (λ (b : (j ≢ id) × (get_elem? s.views j ≡ some u)). absurd (new ticket j u b.0 b.1 (subst (λ (x : View). HasTicket x.phase ticket) (sym a.1) has) too)) (at_set s.views id j w u there))
      (λ (a : (i ≢ id) × (get_elem? s.views i ≡ some v)). ⊎_elim
      (λ (b : (j ≡ id) × (w ≡ u)). absurd (new ticket i v a.0 a.1 (subst (λ (x : View). HasTicket x.phase ticket) (sym b.1) too) has))
      (λ (b : (j ≢ id) × (get_elem? s.views j ≡ some u)). r.apart i j v u ticket a.1 b.1 has too) (at_set s.views id j w u there))
      (at_set s.views id i w v at)

  -- one view changes, and with it the words, the slot and the book
  moves : (s : St) (r : Rule s) (id : ℕ) (v w : View) → get_elem? s.views id ≡ some v → (words : List ℕ) (homes : Homes) (next serving told : ℕ) (now : Told)
      → words ≡ next ∷ serving ∷ told ∷ [] → ((number : ℕ) → numbered number w ≡ numbered number v) → notes w ≡ notes v
      → next + calls v ≡ r.next + calls w → serving + r.next + busy w ≡ next + r.serving + busy v
      → IsView k next serving now w → ((j : ℕ) (u : View) → j ≢ id → get_elem? s.views j ≡ some u → IsView k next serving now u)
      → ((ticket j : ℕ) (u : View) → j ≢ id → get_elem? s.views j ≡ some u → HasTicket w.phase ticket → ¬ HasTicket u.phase ticket)
      → Slot homes (set s.views id w) now → length now.entries ≡ serving → IsBookOf k now → told ≤ now.sure
      → Rule record { words = words; homes = homes; views = set s.views id w }
  moves s r id v w at words homes next serving told now are same_numbers same_notes same_calls same_busy mine others apart slot long book sure = record {
    next = next;
    serving = serving;
    told = told;
    now = now;
    words = are;
    numbers = λ number low high. let t = total-set (numbered number) s.views id v w at in let n = r.numbers number low high in let e = same_numbers number in omega arith;
    all_notes = let t = total-set notes s.views id v w at in let n = r.all_notes in omega arith;
    all_calls = let t = total-set calls s.views id v w at in let n = r.all_calls in omega arith;
    all_busy = let t = total-set busy s.views id v w at in let n = r.all_busy in omega arith;
    each = views-set (IsView k next serving now) s.views id w mine others;
    apart = apart-set s r id w apart;
    slot = slot;
    long = long;
    book = book;
    sure = sure;
  }

  -- notes pass from one view to another, and nobody's phase changes
  reshaped : (s : St) (r : Rule s) (views : List View) → ((number : ℕ) → total (numbered number) views ≡ total (numbered number) s.views) → total notes views ≡ total notes s.views
      → total calls views ≡ total calls s.views → total busy views ≡ total busy s.views
      → ((j : ℕ) (u : View) → get_elem? views j ≡ some u → IsView k r.next r.serving r.now u)
      → ((j : ℕ) (u : View) → get_elem? views j ≡ some u → (u.phase ≡ Idle) ⊎ (get_elem? s.views j ≡ some u))
      → ((j : ℕ) (u : View) → get_elem? s.views j ≡ some u → IsTurn u.phase → get_elem? views j ≡ some u)
      → Rule record { words = s.words; homes = s.homes; views = views }
  reshaped s r views same_numbers same_notes same_calls same_busy each back forth = record {
    next = r.next;
    serving = r.serving;
    told = r.told;
    now = r.now;
    words = r.words;
    numbers = λ number low high. same_numbers number ∙ r.numbers number low high;
    all_notes = same_notes ∙ r.all_notes;
    all_calls = ap (λ (n : ℕ). base k + n) same_calls ∙ r.all_calls;
    all_busy = ap (λ (n : ℕ). r.serving + n) same_busy ∙ r.all_busy;
    each = each;
    apart = λ i j v u ticket at there has too. ⊎_elim (λ (e : v.phase ≡ Idle). absurd (subst (λ p. HasTicket p ticket) e has))
        (λ (a : get_elem? s.views i ≡ some v). ⊎_elim (λ (e : u.phase ≡ Idle). absurd (subst (λ p. HasTicket p ticket) e too))
        (λ (b : get_elem? s.views j ≡ some u). r.apart i j v u ticket a b has too) (back j u there)) (back i v at);
    slot = ⊎_elim
        (λ (h : IsHome tell s.homes s.views r.now). inl (record {
          book = h.book;
          home = h.home;
          told = h.told;
          nobody = λ j u at turn. ⊎_elim (λ (e : u.phase ≡ Idle). subst IsTurn e turn) (λ (b : get_elem? s.views j ≡ some u). h.nobody j u b turn) (back j u at);
        }))
        (λ (o : IsOut s.homes s.views). inr (record { away = o.away; seat = o.seat; view = o.view; there = forth o.seat o.view o.there o.turn; turn = o.turn })) r.slot;
    long = r.long;
    book = r.book;
    sure = r.sure;
  }

  slot-stays : (homes : Homes) (views : List View) (now : Told) (id : ℕ) (v w : View) → get_elem? views id ≡ some v → ¬ IsTurn v.phase → ¬ IsTurn w.phase → Slot homes views now → Slot homes (set views id w) now
  slot-stays homes views now id v w at old new slot = ⊎_elim
      (λ (h : IsHome tell homes views now). inl (record { book = h.book; home = h.home; told = h.told; nobody = views-set (λ u. ¬ IsTurn u.phase) views id w new (λ j u _ there. h.nobody j u there) }))
      (λ (o : IsOut homes views). inr (record {
        away = o.away;
        seat = o.seat;
        view = o.view;
        there = set_else views id o.seat w (λ same. old (subst (λ (u : View). IsTurn u.phase) (one-at views o.seat id o.view v o.there at same) o.turn)) ∙ o.there;
        turn = o.turn;
      })) slot

  bounded : (s : St) (r : Rule s) → r.next ≤ end k
  bounded s r =
      let most = total-most calls notes k.quota s.views (λ j v at. (r.each j v at).calls) in
      let all : k.quota * total notes s.views ≡ k.seats * k.quota = ap (λ (n : ℕ). k.quota * n) r.all_notes ∙ mul_comm k.quota k.seats in
      let drawn = r.all_calls in
      omega arith

  served : (s : St) (r : Rule s) → r.serving ≤ r.next
  served s r = let all = r.all_busy in omega arith

  -- whoever has the turn has its ticket, and nobody else has it
  turn-of : (s : St) (r : Rule s) (j : ℕ) (u : View) → get_elem? s.views j ≡ some u → IsTurn u.phase → HasTicket u.phase r.serving
  turn-of s r j u at turn = turn-ticket r.next r.serving (length u.notes) r.now u.phase (r.each j u at).phase turn

  pub draws : (slots id : ℕ) (me : Me (Option B) View) → me.0.phase ≡ Idle → length me.0.notes ≡ 1 → me.0.calls < k.quota → end k < 4294967296
      → Allows Rule slots id me 0 (λ n. (n + 1) % 2 ^ 64) (drew (step slots 0 1 0 none) me)
  draws slots id me idle one few fits s r deep at wide =
      let v : View = me.0 in
      let w : View = waits v r.next in
      let was = r.each id v at in
      subst (λ (ws : List ℕ). (x : View) × (a : Act (Option B)) × Valid s.homes me.1 a
      × Rule (record { words = set ws 0 ((get_or ws 0 0 + 1) % 2 ^ 64); homes = homes_after s.homes me.1 a; views = set s.views id x }) × drew (step slots 0 1 0 none) me (get_or ws 0 0) (x, carried_after me.1 a)) (sym r.words) (
        w,
        keeps,
        tt,
        moves s r id v w at ((r.next + 1) % 2 ^ 64 ∷ r.serving ∷ r.told ∷ []) s.homes (r.next + 1) r.serving r.told r.now
            (ap (λ (n : ℕ). n ∷ r.serving ∷ r.told ∷ []) (one-more r.next (let b = bounded s r in omega arith))) (λ number. refl) refl (omega arith) (let b = ap busy_in idle in omega arith)
            (record {
              start = was.start;
              notes = was.notes;
              calls = subst (λ (n : ℕ). v.calls + 1 ≤ k.quota * n) (sym one) (omega arith);
              phase = (one, served s r, omega arith);
            })
            (λ j u other there. let e = r.each j u there in record { start = e.start; notes = e.notes; calls = e.calls; phase = phase-drawn r.next r.serving (length u.notes) r.now u.phase e.phase })
            (λ ticket j u other there mine too. let t = ticket-in r.next r.serving (length u.notes) ticket r.now u.phase (r.each j u there).phase too in omega arith)
            (slot-stays s.homes s.views r.now id v w at (λ turn. subst IsTurn idle turn) (λ turn. turn) r.slot)
            r.long
            r.book
            r.sure,
        (refl, refl),
      )

  taken-known : (s : St) (r : Rule s) (id : ℕ) (v : View) (x : ℕ) (b : B) → get_elem? s.views id ≡ some v → v.phase ≡ Waiting x → r.serving ≡ x → v.start ≡ k → tell b ≡ r.now → IsTaken v x (tell b)
  taken-known s r id v x b at is same start told = let was = r.each id v at in let p = subst (IsPhase r.next r.serving r.now (length v.notes)) is was.phase in let most = bounded s r in record {
    place = subst (λ (z : Start). x < end z) (sym start) (omega arith);
    long = ap (λ (t : Told). length t.entries) told ∙ (r.long ∙ same);
    of_gate = subst (λ (z : Start). IsBookOf z (tell b)) (sym start) (subst (IsBookOf k) (sym told) r.book);
    notes = λ m a there. subst (λ (z : Start). IsNote z.seats (tell b) a) (sym start) (subst (λ (t : Told). IsNote k.seats t a) (sym told) (was.notes m a there));
  }

  abbrev Looks : (id : ℕ) (me : Me (Option B) View) (s : St) → List ℕ → Type 0
  Looks id me s ws = (w : View) × (a : Act (Option B)) × Valid s.homes me.1 a
      × Rule (record { words = set ws 1 (get_or ws 1 0); homes = homes_after s.homes me.1 a; views = set s.views id w }) × found_served tell (step 1 1 0 0 none) me (get_or ws 1 0) (w, carried_after me.1 a)

  waiting-is : (p : _) (x y : ℕ) → p ≡ Waiting x → p ≡ Waiting y → x ≡ y
  waiting-is p x y a b = cc

  looks-mine : (id : ℕ) (me : Me (Option B) View) (s : St) (r : Rule s) (x : ℕ) → me.0.phase ≡ Waiting x → me.0.start ≡ k → get_elem? s.views id ≡ some me.0 → r.serving ≡ x
      → Looks id me s (r.next ∷ r.serving ∷ r.told ∷ [])
  looks-mine id me s r x is start at same =
      let v : View = me.0 in
      let was = r.each id v at in
      let phase = subst (IsPhase r.next r.serving r.now (length v.notes)) is was.phase in
      let ticket : HasTicket v.phase r.serving = subst (λ p. HasTicket p r.serving) (sym is) (sym same) in
      let most = bounded s r in
      ⊎_elim
      (λ (h : IsHome tell s.homes s.views r.now).
      let w : View = turns v r.serving (tell h.book) in (
        w,
        takes 0 (Some h.book),
        ap (λ hs. get_elem? hs 0) h.home,
        moves s r id v w at (r.next ∷ r.serving ∷ r.told ∷ []) (set s.homes 0 none) r.next r.serving r.told r.now refl (λ number. refl) refl (omega arith) (let b = ap busy_in is in omega arith)
            (record { start = was.start; notes = was.notes; calls = was.calls; phase = (phase.0, refl, omega arith, h.told) })
            (λ j u other there. r.each j u there)
            (λ t j u other there mine too. other (r.apart j id u v t there at too (subst (HasTicket v.phase) mine ticket)))
            (inr (record { away = ap (λ hs. set hs 0 none) h.home; seat = id; view = w; there = set-there s.views id v w at; turn = tt }))
            r.long
            r.book
            r.sure,
        (
          subst (λ (z : Start). r.serving ≤ end z) (sym start) (omega arith),
          λ t now_is. let e = waiting-is v.phase x t is now_is in record {
            mine = λ found. (h.book, ap (λ (n : ℕ). turns v n (tell h.book)) found, refl, subst (λ (n : ℕ). IsTaken v n (tell h.book)) e (taken-known s r id v x h.book at is same start h.told));
            other = λ not. absurd (not (same ∙ e));
          },
        ),
      ))
      (λ (o : IsOut s.homes s.views). absurd (subst IsTurn is (subst (λ (u : View). IsTurn u.phase)
      (one-at s.views o.seat id o.view v o.there at (r.apart o.seat id o.view v r.serving o.there at (turn-of s r o.seat o.view o.there o.turn) ticket)) o.turn))) r.slot

  looks-other : (id : ℕ) (me : Me (Option B) View) (s : St) (r : Rule s) (x : ℕ) → me.0.phase ≡ Waiting x → me.0.start ≡ k → get_elem? s.views id ≡ some me.0 → r.serving ≢ x
      → Looks id me s (r.next ∷ r.serving ∷ r.told ∷ [])
  looks-other id me s r x is start at other =
      let v : View = me.0 in
      let most = bounded s r in
      let low = served s r in (
        v,
        keeps,
        tt,
        subst Rule (λ i. record { words = r.words i; homes = s.homes; views = sym (set_again s.views id v at) i }) r,
        (
          subst (λ (z : Start). r.serving ≤ end z) (sym start) (omega arith),
          λ t now_is. let e = waiting-is v.phase x t is now_is in record {
            mine = λ found. absurd (other (found ∙ sym e));
            other = λ not. refl;
          },
        ),
      )

  pub looks : (slots id : ℕ) (me : Me (Option B) View) (x : ℕ) → me.0.phase ≡ Waiting x → me.0.start ≡ k → Allows Rule slots id me 1 (λ n. n) (found_served tell (step slots 1 0 0 none) me)
  looks slots id me x is start s r deep at wide = subst (Looks id me s) (sym r.words)
      (dite (ℕ_discrete r.serving x) (λ same. looks-mine id me s r x is start at same) (λ other. looks-other id me s r x is start at other))

  abbrev book-or : B → List (ℕ × Option B) → B
  book-or d [] = d
  book-or d (x ∷ xs) = unwrap_or x.1 d

  same-carried : (l : List (ℕ × Option B)) (b c : B) → l ≡ (0, Some b) ∷ [] → l ≡ (0, Some c) ∷ [] → b ≡ c
  same-carried l b c is again = ap (book-or b) (sym is ∙ again)

  note-one : (seats : ℕ) (now : Told) (a : Note) → IsNumber seats a.number → (m : ℕ) (b : Note) → get_elem? (knows now a ∷ []) m ≡ some b → IsNote seats now b
  note-one seats now a number m b at = subst (IsNote seats now) (at-single (knows now a) m b at).1 (note-all seats now a number)

  -- another's note has another number
  numbers-differ : (s : St) (r : Rule s) (id j : ℕ) (v u : View) (a b : Note) (m : ℕ) → j ≢ id → get_elem? s.views id ≡ some v → get_elem? s.views j ≡ some u → v.notes ≡ a ∷ [] → get_elem? u.notes m ≡ some b → a.number ≢ b.number
  numbers-differ s r id j v u a b m other at there is note same =
      let number = ((r.each id v at).notes 0 a (ap (λ (l : List Note). get_elem? l 0) is)).number in
      let once = r.numbers a.number number.0 number.1 in
      let mine : numbered a.number v ≡ 1 = ap (total (is_numbered a.number)) is ∙ (let e = is_numbered-self a in omega arith) in
      let too = total-one (is_numbered a.number) u.notes m b note in
      let counts = is_numbered-as a b same in
      let both = total-two (numbered a.number) s.views j id u v other there at in
      omega arith

  pub gives_back : (slots id : ℕ) (me : Me (Option B) View) (x : ℕ) (taken : Told) (a : Note) (b : B) (e : EntryValue) → me.0.phase ≡ Turn x taken → me.0.notes ≡ a ∷ [] → me.1 ≡ (0, Some b) ∷ []
      → (tell b).entries ≡ taken.entries ++ e ∷ [] → e.caller ≡ a.number → (tell b).opening ≡ k.book.opening → (tell b).room ≡ k.book.room → (tell b).wall ≡ k.book.wall → taken.sure ≤ (tell b).sure → end k < 4294967296
      → Allows Rule slots id me 1 (λ n. (n + 1) % 2 ^ 64) (passed tell (step slots 1 1 0 none) me)
  gives_back slots id me x taken a b e is note carried more caller opening room wall sure fits s r deep at wide =
      let v : View = me.0 in
      let now : Told = tell b in
      let w : View = passes v now in
      let was = r.each id v at in
      let phase = subst (IsPhase r.next r.serving r.now (length v.notes)) is was.phase in
      let ticket : HasTicket v.phase r.serving = subst (λ p. HasTicket p r.serving) (sym is) phase.1 in
      let turn : IsTurn v.phase = subst IsTurn (sym is) tt in
      let number = (was.notes 0 a (ap (λ (n : List Note). get_elem? n 0) note)).number in
      let low = served s r in
      let most = bounded s r in
      let grown : now.entries ≡ r.now.entries ++ e ∷ [] = more ∙ ap (λ (t : Told). t.entries ++ e ∷ []) phase.3 in
      let grows : r.now.sure ≤ now.sure = (let same = ap (λ (t : Told). t.sure) phase.3 in omega arith) in
      let long : length v.notes ≡ length w.notes = sym (length-map v.notes (knows now)) in
      let not-served : (j : ℕ) (u : View) → j ≢ id → get_elem? s.views j ≡ some u → ¬ HasTicket u.phase r.serving = λ j u other there too. other (r.apart j id u v r.serving there at too ticket) in
      let away : s.homes ≡ none ∷ [] = ⊎_elim (λ (h : IsHome tell s.homes s.views r.now). absurd (h.nobody id v at turn)) (λ (o : IsOut s.homes s.views). o.away) r.slot in
      subst (λ (ws : List ℕ). (y : View) × (act : Act (Option B)) × Valid s.homes me.1 act
      × Rule (record { words = set ws 1 ((get_or ws 1 0 + 1) % 2 ^ 64); homes = homes_after s.homes me.1 act; views = set s.views id y }) × passed tell (step slots 1 1 0 none) me (get_or ws 1 0) (y, carried_after me.1 act)) (sym r.words) (
        w,
        gives,
        tt,
        moves s r id v w at (r.next ∷ (r.serving + 1) % 2 ^ 64 ∷ r.told ∷ []) (put_back s.homes me.1) r.next (r.serving + 1) r.told now
            (ap (λ (n : ℕ). r.next ∷ n ∷ r.told ∷ []) (one-more r.serving (omega arith))) (λ n. numbered-knows n now v.notes) (sym long) (omega arith) (let c = ap busy_in is in omega arith)
            (record {
              start = λ have. was.start (omega arith);
              notes = subst (λ (n : List Note). (m : ℕ) (c : Note) → get_elem? (map (knows now) n) m ≡ some c → IsNote k.seats now c) (sym note) (note-one k.seats now a number);
              calls = subst (λ (n : ℕ). v.calls ≤ k.quota * n) long was.calls;
              phase = tt;
            })
            (λ j u other there. let o = r.each j u there in record {
              start = o.start;
              notes = λ m c one. note-later k.seats r.now now e c grown grows (λ same. numbers-differ s r id j v u a c m other at there note one (sym caller ∙ same)) (o.notes m c one);
              calls = o.calls;
              phase = phase-passed r.next r.serving (length u.notes) r.now now u.phase o.phase (not-served j u other there);
            })
            (λ t j u other there mine. absurd mine)
            (inl (record {
              book = b;
              home = ap (put_back s.homes) carried ∙ ap (λ hs. set hs 0 (some (Some b))) away;
              told = refl;
              nobody = views-set (λ u. ¬ IsTurn u.phase) s.views id w (λ t. t) (λ j u other there t. not-served j u other there (turn-of s r j u there t));
            }))
            (ap length grown ∙ (let n = length-append r.now.entries (e ∷ []) in let m = r.long in omega arith))
            (record {
              opening = opening;
              room = room;
              wall = wall;
              later = r.book.later ++ e ∷ [];
              begins = sym (append_assoc k.book.entries r.book.later (e ∷ [])) ∙ (ap (λ (n : List EntryValue). n ++ e ∷ []) r.book.begins ∙ sym grown);
              callers = All-append (λ c. IsNumber k.seats c.caller) r.book.later (e ∷ []) r.book.callers (All-cons (λ c. IsNumber k.seats c.caller) e [] (subst (IsNumber k.seats) (sym caller) number) (λ i d within. absurd (omega arith)));
            })
            (let was = r.sure in omega arith),
        (ap rest carried, λ c again. let same = same-carried me.1 b c carried again in ap (λ z. passes v (tell z)) same),
      )

  -- so many entries are told to be sure, by who knows it
  pub tells_it : (slots id : ℕ) (me : Me (Option B) View) (a : Note) (sure : ℕ) → me.0.notes ≡ a ∷ [] → sure ≤ a.sure → Allows Rule slots id me 2 (λ n. max n sure) (tells (step slots 2 sure 0 none) me)
  tells_it slots id me a sure note known s r deep at wide =
      let v : View = me.0 in
      let mine = ((r.each id v at).notes 0 a (ap (λ (l : List Note). get_elem? l 0) note)).sure in
      let most : max r.told sure ≤ r.now.sure = max-le r.sure (omega arith) in
      let rule : Rule record { words = r.next ∷ r.serving ∷ max r.told sure ∷ []; homes = s.homes; views = s.views } = record {
        next = r.next;
        serving = r.serving;
        told = max r.told sure;
        now = r.now;
        words = refl;
        numbers = r.numbers;
        all_notes = r.all_notes;
        all_calls = r.all_calls;
        all_busy = r.all_busy;
        each = r.each;
        apart = r.apart;
        slot = r.slot;
        long = r.long;
        book = r.book;
        sure = most;
      } in
      subst (λ (ws : List ℕ). (y : View) × (act : Act (Option B)) × Valid s.homes me.1 act
      × Rule (record { words = set ws 2 (max (get_or ws 2 0) sure); homes = homes_after s.homes me.1 act; views = set s.views id y }) × tells (step slots 2 sure 0 none) me (get_or ws 2 0) (y, carried_after me.1 act)) (sym r.words) (
        v,
        keeps,
        tt,
        subst (λ (views : List View). Rule record { words = r.next ∷ r.serving ∷ max r.told sure ∷ []; homes = s.homes; views = views }) (sym (set_again s.views id v at)) rule,
        refl,
      )

  heard-one : (seats sure : ℕ) (now : Told) (l : List Note) → sure ≤ now.sure → ((m : ℕ) (a : Note) → get_elem? l m ≡ some a → IsNote seats now a) → (m : ℕ) (b : Note) → get_elem? (map (heard sure) l) m ≡ some b → IsNote seats now b
  heard-one seats sure now [] few each m b at = absurd (some-ne-none b (sym at))
  heard-one seats sure now (a ∷ l) few each zero b at =
      let was = each zero a refl in
      subst (IsNote seats now) (some-injective (heard sure a) b at) (record { number = was.number; known = was.known; own = was.own; sure = max-le was.sure few })
  heard-one seats sure now (a ∷ l) few each (suc m) b at = heard-one seats sure now l few (λ i c. each (suc i) c) m b at

  numbered-heard : (number sure : ℕ) (l : List Note) → total (is_numbered number) (map (heard sure) l) ≡ total (is_numbered number) l
  numbered-heard number sure [] = refl
  numbered-heard number sure (a ∷ l) = ap (λ (n : ℕ). is_numbered number a + n) (numbered-heard number sure l)

  -- and who hears it knows it
  pub hears_it : (slots id : ℕ) (me : Me (Option B) View) → me.0.phase ≡ Idle → Allows Rule slots id me 2 (λ n. n) (heard_sure (step slots 2 0 0 none) me)
  hears_it slots id me idle s r deep at wide =
      let v : View = me.0 in
      let w : View = hears v r.told in
      let was = r.each id v at in
      let long : length v.notes ≡ length w.notes = sym (length-map v.notes (heard r.told)) in
      subst (λ (ws : List ℕ). (y : View) × (act : Act (Option B)) × Valid s.homes me.1 act
      × Rule (record { words = set ws 2 (get_or ws 2 0); homes = homes_after s.homes me.1 act; views = set s.views id y }) × heard_sure (step slots 2 0 0 none) me (get_or ws 2 0) (y, carried_after me.1 act)) (sym r.words) (
        w,
        keeps,
        tt,
        moves s r id v w at (r.next ∷ r.serving ∷ r.told ∷ []) s.homes r.next r.serving r.told r.now refl (λ n. numbered-heard n r.told v.notes) (sym long) (omega arith) (omega arith)
            (record {
              start = λ have. was.start (omega arith);
              notes = heard-one k.seats r.told r.now v.notes r.sure was.notes;
              calls = subst (λ (n : ℕ). v.calls ≤ k.quota * n) long was.calls;
              phase = subst (IsPhase r.next r.serving r.now (length w.notes)) (sym idle) tt;
            })
            (λ j u other there. r.each j u there)
            (λ t j u other there mine. absurd (subst (λ p. HasTicket p t) idle mine))
            (slot-stays s.homes s.views r.now id v w at (λ turn. subst IsTurn idle turn) (λ turn. subst IsTurn idle turn) r.slot)
            r.long
            r.book
            r.sure,
        (refl, refl),
      )

  pub deals : (id : ℕ) (v : View) → v.phase ≡ Idle → v.calls ≡ 0 → 0 < length v.notes → Splits Rule id v (kept v) (dealt v)
  deals id v idle unused have s r at =
      let w : View = kept v in
      let o : View = dealt v in
      let was = r.each id v at in
      let phase : IsPhase r.next r.serving r.now (length w.notes) v.phase = subst (IsPhase r.next r.serving r.now (length w.notes)) (sym idle) tt in
      let none = ap busy_in idle in
      reshaped s r (set s.views id w ++ o ∷ [])
      (λ n. let p = total-push (numbered n) (set s.views id w) o in let t = total-set (numbered n) s.views id v w at in let e = parted (is_numbered n) v.notes in omega arith)
      (let p = total-push notes (set s.views id w) o in let t = total-set notes s.views id v w at in let e = parted-length v.notes in omega arith)
      (let p = total-push calls (set s.views id w) o in let t = total-set calls s.views id v w at in omega arith)
      (let p = total-push busy (set s.views id w) o in let t = total-set busy s.views id v w at in omega arith)
      (λ j u there. ⊎_elim
      (views-set (IsView k r.next r.serving r.now) s.views id w
      (record { start = λ more. was.start have; notes = λ m a note. was.notes (suc m) a (other-at v.notes m a note); calls = omega arith; phase = phase }) (λ i x _ here. r.each i x here) j u)
      (λ (t : o ≡ u). subst (IsView k r.next r.serving r.now) t
      (record { start = λ more. was.start have; notes = λ m a note. was.notes 0 a (first-at v.notes m a note); calls = omega arith; phase = subst (IsPhase r.next r.serving r.now (length o.notes)) (sym idle) tt }))
      (at_snoc (set s.views id w) o u j there))
      (λ j u there. ⊎_elim
      (λ (a : get_elem? (set s.views id w) j ≡ some u). ⊎_elim (λ (b : (j ≡ id) × (w ≡ u)). inl (subst (λ (x : View). x.phase ≡ Idle) b.1 idle)) (λ (b : (j ≢ id) × (get_elem? s.views j ≡ some u)). inr b.1) (at_set s.views id j w u a))
      (λ (t : o ≡ u). inl (subst (λ (x : View). x.phase ≡ Idle) t idle)) (at_snoc (set s.views id w) o u j there))
      (λ j u there turn. at_longer (set s.views id w) (o ∷ []) j u
      (set_else s.views id j w (λ same. subst IsTurn idle (subst (λ (x : View). IsTurn x.phase) (one-at s.views j id u v there at same) turn)) ∙ there))

  pub rejoins : (id : ℕ) (v : View) (other : ℕ) (w : View) → v.phase ≡ Idle → w.phase ≡ Idle → v.start ≡ k → Joins Rule id v other w (joined v w) spent
  rejoins id v other w idle resting start s r at apart there =
      let j : View = joined v w in
      let middle : List View = set s.views id j in
      let here : get_elem? s.views other ≡ some w = sym (set_else s.views id other j apart) ∙ there in
      let was = r.each id v at in
      let too = r.each other w here in
      let none = ap busy_in idle in
      let nothing = ap busy_in resting in
      reshaped s r (set middle other spent)
      (λ n. let a = total-set (numbered n) s.views id v j at in let b = total-set (numbered n) middle other w spent there in let c = total-append (is_numbered n) w.notes v.notes in omega arith)
      (let a = total-set notes s.views id v j at in let b = total-set notes middle other w spent there in let c = length-append w.notes v.notes in omega arith)
      (let a = total-set calls s.views id v j at in let b = total-set calls middle other w spent there in omega arith)
      (let a = total-set busy s.views id v j at in let b = total-set busy middle other w spent there in omega arith)
      (views-set (IsView k r.next r.serving r.now) middle other spent
      (record { start = λ more. absurd (omega arith); notes = λ m a note. absurd (some-ne-none a (sym note)); calls = omega arith; phase = tt })
      (λ i u _ one. views-set (IsView k r.next r.serving r.now) s.views id j
      (record {
        start = λ more. start;
        notes = λ m a note. ⊎_elim (λ (t : (n : ℕ) × (get_elem? w.notes n ≡ some a)). too.notes t.0 a t.1) (λ (t : (n : ℕ) × (get_elem? v.notes n ≡ some a)). was.notes t.0 a t.1) (at-either w.notes v.notes m a note);
        calls = let a = was.calls in let b = too.calls in let c = mul-add k.quota (length w.notes) (length v.notes) in let d = ap (λ (n : ℕ). k.quota * n) (length-append w.notes v.notes) in omega arith;
        phase = subst (IsPhase r.next r.serving r.now (length j.notes)) (sym idle) tt;
      }) (λ i x _ one. r.each i x one) i u one))
      (λ i u one. ⊎_elim (λ (t : (i ≡ other) × (spent ≡ u)). inl (subst (λ (x : View). x.phase ≡ Idle) t.1 refl))
      (λ (t : (i ≢ other) × (get_elem? middle i ≡ some u)). ⊎_elim (λ (b : (i ≡ id) × (j ≡ u)). inl (subst (λ (x : View). x.phase ≡ Idle) b.1 idle)) (λ (b : (i ≢ id) × (get_elem? s.views i ≡ some u)). inr b.1) (at_set s.views id i j u t.1))
      (at_set middle other i spent u one))
      (λ i u one turn.
      let not-id : i ≢ id = λ same. subst IsTurn idle (subst (λ (x : View). IsTurn x.phase) (one-at s.views i id u v one at same) turn) in
      let not-other : i ≢ other = λ same. subst IsTurn resting (subst (λ (x : View). IsTurn x.phase) (one-at s.views i other u w one here same) turn) in
      set_else middle other i spent not-other ∙ (set_else s.views id i j not-id ∙ one))

  pub begins : (n : ℕ) (b : B) → tell b ≡ k.book → n ≡ base k → Rule (table.opening (n ∷ n ∷ 0 ∷ []) (Some b ∷ []) (first_view k))
  begins n b is from = record {
    next = n;
    serving = n;
    told = 0;
    now = k.book;
    words = refl;
    numbers = λ number low high. let once = once_numbered number 1 k.seats k.book low (omega arith) in omega arith;
    all_notes = let long = length-notes_from 1 k.seats k.book in omega arith;
    all_calls = omega arith;
    all_busy = omega arith;
    each = λ j v at. subst (IsView k n n k.book) (at-single (first_view k) j v at).1 (record {
      start = λ more. refl;
      notes = λ m a note. note-new k.seats k.book 1 k.seats m a (omega arith) (omega arith) note;
      calls = omega arith;
      phase = tt;
    });
    apart = λ i j v w ticket at there has too. absurd (subst (λ (x : View). HasTicket x.phase ticket) (sym (at-single (first_view k) i v at).1) has);
    slot = inl (record { book = b; home = refl; told = is; nobody = λ j v at turn. subst (λ (x : View). IsTurn x.phase) (sym (at-single (first_view k) j v at).1) turn });
    long = sym from;
    book = record { opening = refl; room = refl; wall = refl; later = []; begins = append-nil k.book.entries; callers = λ i d within. absurd (omega arith) };
    sure = omega arith;
  }

  -- what is known of a gate whose notes all came together
  pub record IsClosed (v : View) (xs : List (Option B)) : Type 0 where
    pub book : B
    pub at : get_elem? xs 0 ≡ some (Some book)
    pub last : IsLast tell k book
    pub of_gate : IsBookOf k (tell book)
    pub notes : (m : ℕ) (a : Note) → get_elem? v.notes m ≡ some a → IsNote k.seats (tell book) a

  pub finished : (id : ℕ) (v : View) (ws : List ℕ) (xs : List (Option B)) → v.phase ≡ Idle → k.seats ≤ length v.notes → Final (Seen Rule id v) ws xs → IsClosed v xs
  finished id v ws xs idle all final =
      let s : St = final.0 in
      let r : Rule s = final.1.0 in
      let at = final.1.1 in
      let was = r.each id v at in
      ⊎_elim
      (λ (h : IsHome tell s.homes s.views r.now). record {
        book = h.book;
        at = final.4 0 (Some h.book) (ap (λ hs. get_elem? hs 0) h.home);
        last = record { state = s; rule = r; home = h.home };
        of_gate = subst (IsBookOf k) (sym h.told) r.book;
        notes = λ m a note. subst (λ (t : Told). IsNote k.seats t a) (sym h.told) (was.notes m a note);
      })
      (λ (o : IsOut s.homes s.views).
      let one = turn-one r.next r.serving (length o.view.notes) r.now o.view.phase (r.each o.seat o.view o.there).phase o.turn in
      let other : o.seat ≢ id = λ same. subst IsTurn idle (subst (λ (x : View). IsTurn x.phase) (one-at s.views o.seat id o.view v o.there at same) o.turn) in
      let both = total-two notes s.views o.seat id o.view v other o.there at in
      let have = r.all_notes in
      absurd (omega arith)) r.slot
