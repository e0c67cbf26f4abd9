-- All lines served at one desk.
use Rattle.std.proofs.Common.{◌≡◌, ℕ, zero, suc, ◌+◌, ◌<◌, List, [], ◌∷◌, ◌++◌, length, get_or, map, ◌==◌, Some, IsSomeAnd, refl, sym, ap, ◌∙◌, subst, arith}
use Rattle.std.specs.declared.option.Option.{Option}
use Rattle.std.specs.List.{All}
use Rattle.std.proofs.lemmas.List.{append_cancel_left, get_or-map, length-map}
use Rattle.std.proofs.lemmas.List.Elements.{filter-append}
use Rattle.desk_model.specs.statements.Entry.{EntryValue}
use Rattle.turn_gate.specs.Seats.{GateValue, SeatValue, IsSeatOf, new_seat, new_seats}
use Rattle.turn_gate.specs.Told.{own, IsNumber, IsBookOf}
use Rattle.turn_gate.specs.Turns.{Knows}
use Rattle.turn_gate.specs.declared.start.Start.{Start}
use Rattle.turn_gate.specs.declared.told.Told.{Told}
use Rattle.serve_desk.specs.Told.{LineValue}
use Rattle.serve_desk.specs.Session.{Session}
use Rattle.serve_desk.specs.AllLines.{IsServed, OneLine, AreAllServed, AreServed}
use Rattle.serve_desk.specs.Attends.{Attends}

-- the seats of a new gate, one by one
pub length-new_seats : (gate : GateValue) (first count : ℕ) → length (new_seats gate first count) ≡ count
length-new_seats gate first zero = refl
length-new_seats gate first (suc count) = ap (λ n. suc n) (length-new_seats gate (first + 1) count)

pub new_seats-at : (gate : GateValue) (first count i : ℕ) (d : SeatValue) → i < count → get_or (new_seats gate first count) i d ≡ new_seat gate (first + i)
new_seats-at gate first zero i d within = absurd (omega arith)
new_seats-at gate first (suc count) zero d within = ap (new_seat gate) (omega arith)
new_seats-at gate first (suc count) (suc i) d within = new_seats-at gate (first + 1) count i d (omega arith) ∙ ap (new_seat gate) (omega arith)

-- what a post has at its place, where all seats are told in order
pub seat-at : {P X : Type 0} (seat : P → Option X) (posts : List P) (seats : List X) (i : ℕ) (d : P) (e : X) → map seat posts ≡ map (λ s. Some s) seats → i < length posts
    → seat (get_or posts i d) ≡ Some (get_or seats i e)
seat-at seat posts seats i d e same within =
    let long : length seats ≡ length posts = sym (length-map seats (λ s. Some s)) ∙ (ap length (sym same) ∙ length-map posts seat) in
    let near : i < length seats = omega arith in
    sym (get_or-map seat posts i d (Some e) within) ∙ (ap (λ l. get_or l i (Some e)) same ∙ get_or-map (λ s. Some s) seats i e (Some e) near)

-- of a seat that knew what the book began with, the book's later entries are those of its session
pub own-served : (base after : List EntryValue) (number : ℕ) (seat later : SeatValue) (es : List EntryValue) → seat.number ≡ number → seat.known ≡ base → later.number ≡ seat.number
    → own later.known seat.number ≡ own seat.known seat.number ++ es → Knows after later → own after number ≡ own base number ++ es
own-served base after number seat later es is began same made knows =
    let here : later.number ≡ number = same ∙ is in
    subst (λ n. own after n ≡ own later.known n) here knows.own
    ∙ (subst (λ n. own later.known n ≡ own seat.known n ++ es) is made ∙ ap (λ l. own l number ++ es) began)

-- so of its number the entries behind those are its session's
pub own-more : (base more after es : List EntryValue) (number : ℕ) → after ≡ base ++ more → own after number ≡ own base number ++ es → es ≡ own more number
own-more base more after es number begins served =
    append_cancel_left (own base number) es (own more number)
    (sym served ∙ (ap (λ l. own l number) begins ∙ filter-append (λ e. e.caller == number) base more))

-- one line, at the seat of its number
IsServed-attends : (gate : GateValue) (more after : List EntryValue) (i : ℕ) (seat later : Option SeatValue) (known : SeatValue) (line served : LineValue) → Attends gate seat later line served
    → seat ≡ Some (new_seat gate (1 + i)) → later ≡ Some known → Knows after known → after ≡ gate.start.book.entries ++ more
    → IsServed gate.start.quota (own more (i + 1)) line served
IsServed-attends gate more after i seat later known line served a had has knows begins =
    let before : a.before ≡ new_seat gate (1 + i) = cc in
    let behind : a.behind ≡ known = cc in
    let none : a.before.calls ≡ 0 = ap (λ s. s.calls) before in
    let mine = own-more gate.start.book.entries more after a.serves.entries (i + 1) begins
    (own-served gate.start.book.entries after (i + 1) a.before a.behind a.serves.entries (ap (λ s. s.number) before ∙ omega arith) (ap (λ s. s.known) before) a.serves.made.number
    a.serves.made.own_calls (subst (λ s. Knows after s) (sym behind) knows)) in
    record {
      calls = a.serves.calls;
      why = a.why;
      session = subst (λ es. Session gate.start.quota a.serves.calls es a.why) mine
          (subst (λ n. Session n a.serves.calls a.serves.entries a.why) (omega arith) a.serves.session);
      told = a.serves.told;
      fault = a.fault;
      no_fault = a.no_fault;
      faults = a.faults;
    }

-- an element, where a list has a position
pub some_element : {P : Type 0} (posts : List P) (i : ℕ) → i < length posts → P
some_element [] i within = absurd (omega arith)
some_element (post ∷ posts) i within = post

-- posts whose seats are these, in order, have seats of their gate
pub All-seated : {P : Type 0} (posts : List P) (seats : List SeatValue) (seat : P → Option SeatValue) (gate : GateValue) → map seat posts ≡ map (λ s. Some s) seats → All (IsSeatOf gate) seats
    → All (λ post. IsSomeAnd (seat post) (IsSeatOf gate)) posts
All-seated posts seats seat gate same each k d within =
    let long : length seats ≡ length posts = sym (length-map seats (λ s. Some s)) ∙ (ap length (sym same) ∙ length-map posts seat) in
    let near : k < length seats = omega arith in
    let e : SeatValue = some_element seats k near in
    subst (λ o. IsSomeAnd o (IsSeatOf gate)) (sym (seat-at seat posts seats k d e same within)) (each k e near)

-- the seats of posts whose lines were served are of their gate
pub All-left : {P : Type 0} (posts later : List P) (seats : List SeatValue) (seat : P → Option SeatValue) (line : P → LineValue) (gate : GateValue)
    → ((i : ℕ) (d : P) → i < length posts → Attends gate (seat (get_or posts i d)) (seat (get_or later i d)) (line (get_or posts i d)) (line (get_or later i d)))
    → length later ≡ length posts → map (λ s. Some s) seats ≡ map seat later → All (IsSeatOf gate) seats
All-left posts later seats seat line gate attends as_many back k e within =
    let long : length seats ≡ length later = sym (length-map seats (λ s. Some s)) ∙ (ap length back ∙ length-map later seat) in
    let here : k < length posts = omega arith in
    let there : k < length later = omega arith in
    let d = some_element posts k here in
    let a = attends k d here in
    let has : seat (get_or later k d) ≡ Some (get_or seats k e) = seat-at seat later seats k d e (sym back) there in
    let is : a.behind ≡ get_or seats k e = cc (a.has, has) in
    subst (λ s. IsSeatOf gate s) is a.of_desk

-- what one post makes one line, at the seat of its number, by what the book has then, and what is known of the seat
abbrev pub AttendsOne : {P : Type 0} → (SeatValue → Type 0) → (P → Option SeatValue) → (P → LineValue) → GateValue → List P → List P → Told → List EntryValue → OneLine → Type 0
AttendsOne {P} Of seat line gate posts later book more One = (i : ℕ) (d : P) (known : SeatValue) → i < length posts → seat (get_or posts i d) ≡ Some (new_seat gate (1 + i)) → seat (get_or later i d) ≡ Some known
    → Knows book.entries known → Of known → One (i + 1) (own more (i + 1)) (line (get_or posts i d)) (line (get_or later i d))

-- all lines, at the seats of a new desk
AreServed-attended : {P : Type 0} (Of : SeatValue → Type 0) (One : OneLine) (seat : P → Option SeatValue) (line : P → LineValue) (gate : GateValue) (posts later : List P) (seats : List SeatValue) (book : Told)
    → (of_gate : IsBookOf gate.start book) → AttendsOne Of seat line gate posts later book of_gate.later One
    → length later ≡ length posts → gate.start.seats ≡ length posts → map seat posts ≡ map (λ s. Some s) (new_seats gate 1 (length posts)) → map (λ s. Some s) seats ≡ map seat later
    → All (Knows book.entries) seats → All Of seats
    → AreAllServed One gate.start.book.entries book.entries (map line posts) (map line later)
AreServed-attended {P} Of One seat line gate posts later seats book of_gate attends as_many count new back knows are =
    let n : length (map line posts) ≡ length posts = length-map posts line in
    let one : (i : ℕ) (x : LineValue) → i < length (map line posts) → One (i + 1) (own of_gate.later (i + 1)) (get_or (map line posts) i x) (get_or (map line later) i x) =
    λ i x within.
    let here : i < length posts = omega arith in
    let there : i < length later = omega arith in
    let d : P = some_element posts i here in
    let e : SeatValue = new_seat gate 1 in
    let long : length seats ≡ length posts = sym (length-map seats (λ s. Some s)) ∙ (ap length back ∙ (length-map later seat ∙ as_many)) in
    let had : seat (get_or posts i d) ≡ Some (new_seat gate (1 + i)) = seat-at seat posts (new_seats gate 1 (length posts)) i d e new here ∙ ap (λ s. Some s) (new_seats-at gate 1 (length posts) i e here) in
    let has : seat (get_or later i d) ≡ Some (get_or seats i e) = seat-at seat later seats i d e (sym back) there in
    let k : Knows book.entries (get_or seats i e) = knows i e (omega arith) in
    let served = attends i d (get_or seats i e) here had has k (are i e (omega arith)) in
    subst (λ l. One (i + 1) (own of_gate.later (i + 1)) l (get_or (map line later) i x)) (sym (get_or-map line posts i d x here))
    (subst (λ l. One (i + 1) (own of_gate.later (i + 1)) (line (get_or posts i d)) l) (sym (get_or-map line later i d x there)) served)
    in
    record {
      more = of_gate.later;
      begins = sym of_gate.begins;
      callers = subst (λ n. All (λ e. IsNumber n e.caller) of_gate.later) (count ∙ sym n) of_gate.callers;
      count = length-map later line ∙ (as_many ∙ sym n);
      each = one;
    }

pub map-map : {A B C : Type 0} (f : A → B) (g : B → C) (xs : List A) → map g (map f xs) ≡ map (λ x. g (f x)) xs
map-map f g [] = refl
map-map f g (x ∷ xs) = ap (λ ys. g (f x) ∷ ys) (map-map f g xs)

-- the lines of a list, which were taken to posts with the seats of a new desk, and back
pub AreServed-all : {P L : Type 0} (Of : SeatValue → Type 0) (One : OneLine) (posts later : List P) (lines served : List L) (made seats : List SeatValue) (seat : P → Option SeatValue) (line : P → L) (value : L → LineValue) (gate : GateValue)
    (many : ℕ) (book : Told) → (of_gate : IsBookOf gate.start book) → AttendsOne Of seat (λ p. value (line p)) gate posts later book of_gate.later One
    → length later ≡ length posts → map line posts ≡ lines → served ≡ map line later → made ≡ new_seats gate 1 many → map seat posts ≡ map (λ s. Some s) made
    → map (λ s. Some s) seats ≡ map seat later → gate.start.seats ≡ many → many ≡ length lines → All (Knows book.entries) seats → All Of seats
    → AreAllServed One gate.start.book.entries book.entries (map value lines) (map value served)
AreServed-all Of One posts later lines served made seats seat line value gate many book of_gate attends as_many taken left new had back began count knows are =
    let long : length lines ≡ length posts = ap length (sym taken) ∙ length-map posts line in
    let seated : map seat posts ≡ map (λ s. Some s) (new_seats gate 1 (length posts)) = had ∙ ap (λ l. map (λ s. Some s) l) (new ∙ ap (new_seats gate 1) (count ∙ long)) in
    let all = AreServed-attended Of One seat (λ p. value (line p)) gate posts later seats book of_gate attends as_many (began ∙ (count ∙ long)) seated back knows are in
    let here : map (λ p. value (line p)) posts ≡ map value lines = sym (map-map line value posts) ∙ ap (map value) taken in
    let there : map (λ p. value (line p)) later ≡ map value served = sym (map-map line value later) ∙ ap (map value) (sym left) in
    subst (λ l. AreAllServed One gate.start.book.entries book.entries l (map value served)) here
    (subst (λ l. AreAllServed One gate.start.book.entries book.entries (map (λ p. value (line p)) posts) l) there all)

-- each by a session without looks
pub AttendsOne-session : {P : Type 0} (seat : P → Option SeatValue) (line : P → LineValue) (gate : GateValue) (posts later : List P) (book : Told) → (of_gate : IsBookOf gate.start book)
    → ((i : ℕ) (d : P) → i < length posts → Attends gate (seat (get_or posts i d)) (seat (get_or later i d)) (line (get_or posts i d)) (line (get_or later i d)))
    → AttendsOne (λ s. Unit {0}) seat line gate posts later book of_gate.later (λ number. IsServed gate.start.quota)
AttendsOne-session seat line gate posts later book of_gate attends i d known within had has knows of =
    IsServed-attends gate of_gate.later book.entries i (seat (get_or posts i d)) (seat (get_or later i d)) known (line (get_or posts i d)) (line (get_or later i d)) (attends i d within) had has knows (sym of_gate.begins)

-- at a desk that began so
pub AreServed-began : (start begun : Start) (after : List EntryValue) (lines later : List LineValue) → start ≡ begun → AreAllServed (λ number. IsServed start.quota) start.book.entries after lines later
    → AreServed begun.quota begun.book.entries after lines later
AreServed-began start begun after lines later is all = subst (λ k. AreServed k.quota k.book.entries after lines later) is all
