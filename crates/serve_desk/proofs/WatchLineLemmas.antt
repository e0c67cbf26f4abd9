-- All lines served at one desk with looks.
use Rattle.std.proofs.Common.{◌≡◌, Bool, ℕ, ◌+◌, ◌<◌, ◌≤◌, List, ◌++◌, length, get_or, take, map, Some, IsSome, refl, sym, ap, ◌∙◌, subst, arith}
use Rattle.std.specs.declared.option.Option.{Option}
use Rattle.std.specs.List.{All}
use Rattle.std.proofs.lemmas.List.{get_or-map, length-map}
use mathlib.Core.List.{IsPrefix}
use Rattle.board_window.specs.Walls.{FrontValue}
use Rattle.desk_model.specs.statements.Entry.{EntryValue}
use Rattle.desk_model.specs.statements.Opening.{OpeningValue}
use Rattle.desk_shared.specs.Kept.{AreKept}
use Rattle.desk_shared.specs.Shown.{IsViewOf}
use Rattle.turn_gate.specs.Seats.{GateValue, SeatValue, IsSeatOf, new_seat, new_seats}
use Rattle.turn_gate.specs.Told.{own, IsBookOf}
use Rattle.turn_gate.specs.Turns.{Knows}
use Rattle.turn_gate.specs.declared.start.Start.{Start}
use Rattle.turn_gate.specs.declared.told.Told.{Told}
use Rattle.serve_desk.specs.AllLines.{AreAllServed}
use Rattle.serve_desk.specs.Sees.{AreSeen, no_act_yet, a_look, a_call_that_is_shown, a_call_that_is_not_shown, Sees}
use Rattle.serve_desk.specs.Told.{LineValue}
use Rattle.serve_desk.specs.WatchFollows.{Act}
use Rattle.serve_desk.specs.WatchLines.{IsWatched, IsManned, AttendsWatched}
use Rattle.serve_desk.specs.WatchSession.{SessionWatched}
use Rattle.serve_desk.proofs.LineLemmas.{AttendsOne, seat-at, new_seats-at, length-new_seats, own-served, own-more, some_element, map-map}
use Rattle.serve_desk.proofs.SureLemmas.{own-begins, take-begins}
use Rattle.serve_desk.proofs.SightLemmas.{prefix-self, prefix-trans, prefix-length, take-prefix, take-front, take-all, AreSeen-longer}

-- the last entry that was shown, and the last that was before a look, are among those that are known
record AreKnown (known : List EntryValue) (upto agreed : ℕ) : Type 0 where
  last : upto ≤ length known
  looked : agreed ≤ length known

are-known : (o : OpeningValue) (seen known : List EntryValue) (number : ℕ) (mine : List EntryValue) (made_with : ℕ) (acts : List Act) (es : List EntryValue) (before upto agreed : ℕ) → made_with ≤ length known
    → AreSeen o seen known number mine made_with acts es before upto agreed → AreKnown known upto agreed
are-known o seen known number mine made_with _ _ _ _ _ made no_act_yet = record { last = made; looked = made }
are-known o seen known number mine made_with _ _ _ _ _ made (a_look acts es before upto agreed n board position are least shown within) =
    let was = are-known o seen known number mine made_with acts es before upto agreed made are in record { last = was.last; looked = was.last }
are-known o seen known number mine made_with _ _ _ _ _ made (a_call_that_is_shown acts es before upto agreed at e are ends) =
    let was = are-known o seen known number mine made_with acts es before upto agreed made are in record { last = ends.within; looked = was.looked }
are-known o seen known number mine made_with _ _ _ _ _ made (a_call_that_is_not_shown acts es before upto agreed e are) = are-known o seen known number mine made_with acts es before upto agreed made are

-- looks are right by all entries of the desk, of which those that the caller knows are the first
Sees-all : (o : OpeningValue) (made_with : ℕ) (begun here seen known all : List EntryValue) (number : ℕ) (mine : List EntryValue) (acts : List Act) → IsPrefix known all → made_with ≤ length known → IsPrefix here begun
    → Sees o made_with begun seen known number mine acts → Sees o made_with here seen all number mine acts
Sees-all o made_with begun here seen known all number mine acts more made from sees = record {
  legal = sees.legal;
  begins = prefix-trans here begun seen from sees.begins;
  now = sees.now;
  before = sees.before;
  upto = sees.upto;
  agreed = sees.agreed;
  are = AreSeen-longer o seen seen known all number mine made_with acts sees.now sees.before sees.upto sees.agreed (prefix-self seen) more sees.are;
  agrees = sees.agrees ∙ take-prefix sees.agreed known all more (are-known o seen known number mine made_with acts sees.now sees.before sees.upto sees.agreed made sees.are).looked;
}

-- one line, at the seat of its number
pub AttendsOne-watched : {P : Type 0} (always : Bool) (found : Option (List ℕ)) (seat : P → Option SeatValue) (view : P → Option FrontValue) (line : P → LineValue) (gate : GateValue) (posts later : List P) (book : Told) → (of_gate : IsBookOf gate.start book)
    → ((i : ℕ) (d : P) → i < length posts
    → AttendsWatched always gate (seat (get_or posts i d)) (seat (get_or later i d)) (view (get_or posts i d)) (view (get_or later i d)) (line (get_or posts i d)) (line (get_or later i d)))
    → AttendsOne (λ s. AreKept found book.opening (take s.sure book.entries)) seat line gate posts later book of_gate.later
    (IsWatched always found gate.start.quota gate.start.book.opening (length gate.start.book.entries) book.entries)
AttendsOne-watched always found seat view line gate posts later book of_gate attends i d known within had has knows of =
    let a = attends i d within in
    let base = gate.start.book.entries in
    let all = book.entries in
    let w = a.watches in
    let before : a.before ≡ new_seat gate (1 + i) = cc (a.had, had) in
    let behind : a.behind ≡ known = cc (a.has, has) in
    let none : a.before.calls ≡ 0 = ap (λ s. s.calls) before in
    let number : a.before.number ≡ i + 1 = ap (λ s. s.number) before ∙ omega arith in
    let knew : a.before.known ≡ base = ap (λ s. s.known) before in
    let k : Knows all a.behind = subst (λ s. Knows all s) (sym behind) knows in
    let mine : w.entries ≡ own of_gate.later (i + 1) =
    own-more base of_gate.later all w.entries (i + 1) (sym of_gate.begins) (own-served base all (i + 1) a.before a.behind w.entries number knew w.made.number w.made.own_calls k) in
    let front : take (length base) all ≡ base = ap (take (length base)) (sym of_gate.begins) ∙ take-front (length base) base of_gate.later (omega arith) ∙ take-all base in
    let far : length base ≤ length a.behind.known = prefix-length base a.behind.known a.of_desk.knows in
    let sees = Sees-all gate.start.book.opening (length base) a.saw.entries base a.sees.entries a.behind.known all a.before.number (own a.before.known a.before.number) w.acts k.known far a.was_of_desk.saw w.sees in
    let by_number = subst (λ n. Sees gate.start.book.opening (length base) base a.sees.entries all n (own a.before.known n) w.acts) number sees in
    let by_base = subst (λ (l : List EntryValue). Sees gate.start.book.opening (length base) base a.sees.entries all (i + 1) (own l (i + 1)) w.acts) knew by_number in
    let sure = prefix-trans (own a.before.known a.before.number ++ w.put) (own (take a.behind.sure a.behind.known) a.before.number) (own (take a.behind.sure all) a.before.number) w.sure
    (own-begins (take a.behind.sure a.behind.known) (take a.behind.sure all) a.before.number (take-begins a.behind.sure a.behind.known all k.known)) in
    let sure_by_number = subst (λ n. IsPrefix (own a.before.known n ++ w.put) (own (take a.behind.sure all) n)) number sure in
    record {
      calls = w.calls;
      acts = w.acts;
      why = a.why;
      put = w.put;
      session = subst (λ es. SessionWatched gate.start.quota w.calls es w.acts a.why w.put) mine (subst (λ n. SessionWatched n w.calls w.entries w.acts a.why w.put) (omega arith) w.session);
      sure = a.behind.sure;
      are_kept = subst (λ o. AreKept found o (take a.behind.sure all)) of_gate.opening (subst (λ s. AreKept found book.opening (take s.sure all)) (sym behind) of);
      are_sure = subst (λ l. IsPrefix (own l (i + 1) ++ w.put) (own (take a.behind.sure all) (i + 1))) (knew ∙ sym front) sure_by_number;
      told = w.told;
      seen = a.sees.entries;
      sees = subst (λ (l : List EntryValue). Sees gate.start.book.opening (length base) l a.sees.entries all (i + 1) (own l (i + 1)) w.acts) (sym front) by_base;
      fault = a.fault;
      no_fault = a.no_fault;
      faults = a.faults;
      kept = a.kept;
    }

-- posts whose seats are a new desk's, and whose views are of it, are manned
pub All-manned : {P Q : Type 0} (posts : List P) (viewed : List Q) (seats : List SeatValue) (views : List FrontValue) (seat : P → Option SeatValue) (line : P → Q) (view : Q → Option FrontValue) (gate : GateValue) (many : ℕ)
    → map line posts ≡ viewed → map seat posts ≡ map (λ s. Some s) seats → map view viewed ≡ map (λ v. Some v) views → seats ≡ new_seats gate 1 many → All (IsSeatOf gate) seats → All (IsViewOf gate) views
    → All (λ v. v.entries ≡ gate.start.book.entries) views → gate.start.book.sure ≡ length gate.start.book.entries → All (λ post. IsManned gate (seat post) (view (line post))) posts
All-manned posts viewed seats views seat line view gate many taken had shown new each looks saw all_sure k d within =
    let s_long : length seats ≡ length posts = sym (length-map seats (λ s. Some s)) ∙ (ap length (sym had) ∙ length-map posts seat) in
    let seen : map (λ p. view (line p)) posts ≡ map (λ v. Some v) views = sym (map-map line view posts) ∙ (ap (map view) taken ∙ shown) in
    let v_long : length views ≡ length posts = sym (length-map views (λ v. Some v)) ∙ (ap length (sym seen) ∙ length-map posts (λ p. view (line p))) in
    let s_near : k < length seats = omega arith in
    let v_near : k < length views = omega arith in
    let s : SeatValue = some_element seats k s_near in
    let v : FrontValue = some_element views k v_near in
    let m_near : k < many = omega (arith, ap length new, length-new_seats gate 1 many) in
    let is_new : get_or seats k s ≡ new_seat gate (1 + k) = ap (λ l. get_or l k s) new ∙ new_seats-at gate 1 many k s m_near in
    record {
      at_seat = get_or seats k s;
      with_view = get_or views k v;
      has_seat = seat-at seat posts seats k d s had within;
      has_view = seat-at (λ p. view (line p)) posts views k d v seen within;
      caller = record {
        sits = each k s s_near;
        knows = subst (λ (l : List EntryValue). IsPrefix gate.start.book.entries l) (sym (ap (λ x. x.known) is_new)) (prefix-self gate.start.book.entries);
        looks = looks k v v_near;
        saw = subst (λ (l : List EntryValue). IsPrefix gate.start.book.entries l) (sym (saw k v v_near)) (prefix-self gate.start.book.entries);
      };
      sure = omega (arith, all_sure, ap (λ x. length x.known) is_new, ap (λ x. x.sure) is_new);
    }

-- after their sessions all posts have a view, and a seat of the desk
pub All-at-seats : {P : Type 0} (always : Bool) (posts later : List P) (seat : P → Option SeatValue) (view : P → Option FrontValue) (value : P → LineValue) (gate : GateValue)
    → ((i : ℕ) (d : P) → i < length posts
    → AttendsWatched always gate (seat (get_or posts i d)) (seat (get_or later i d)) (view (get_or posts i d)) (view (get_or later i d)) (value (get_or posts i d)) (value (get_or later i d)))
    → length later ≡ length posts → All (λ post. IsSome (seat post)) later
All-at-seats always posts later seat view value gate attends as_many k e within =
    let here : k < length posts = omega arith in
    subst (λ o. IsSome o) (sym (attends k e here).has) refl

pub All-viewed : {P Q : Type 0} (always : Bool) (posts later : List P) (viewed : List Q) (seat : P → Option SeatValue) (line : P → Q) (view : Q → Option FrontValue) (value : P → LineValue) (gate : GateValue)
    → ((i : ℕ) (d : P) → i < length posts
    → AttendsWatched always gate (seat (get_or posts i d)) (seat (get_or later i d)) (view (line (get_or posts i d))) (view (line (get_or later i d))) (value (get_or posts i d)) (value (get_or later i d)))
    → length later ≡ length posts → viewed ≡ map line later → All (λ q. IsSome (view q)) viewed
All-viewed always posts later viewed seat line view value gate attends as_many left k e within =
    let long : length viewed ≡ length later = ap length left ∙ length-map later line in
    let here : k < length posts = omega arith in
    let there : k < length later = omega arith in
    let d = some_element posts k here in
    let a = attends k d here in
    let at : get_or viewed k e ≡ line (get_or later k d) = ap (λ l. get_or l k e) left ∙ get_or-map line later k d e there in
    subst (λ o. IsSome o) (sym (ap view at ∙ a.views)) refl

pub All-seated-still : {P : Type 0} (always : Bool) (posts later : List P) (seats : List SeatValue) (seat : P → Option SeatValue) (view : P → Option FrontValue) (value : P → LineValue) (gate : GateValue)
    → ((i : ℕ) (d : P) → i < length posts
    → AttendsWatched always gate (seat (get_or posts i d)) (seat (get_or later i d)) (view (get_or posts i d)) (view (get_or later i d)) (value (get_or posts i d)) (value (get_or later i d)))
    → length later ≡ length posts → map (λ s. Some s) seats ≡ map seat later → All (IsSeatOf gate) seats
All-seated-still always posts later seats seat view value gate attends as_many back k e within =
    let long : length seats ≡ length later = sym (length-map seats (λ s. Some s)) ∙ (ap length back ∙ length-map later seat) in
    let here : k < length posts = omega arith in
    let there : k < length later = omega arith in
    let d = some_element posts k here in
    let a = attends k d here in
    let has : seat (get_or later k d) ≡ Some (get_or seats k e) = seat-at seat later seats k d e (sym back) there in
    let is : a.behind ≡ get_or seats k e = cc (a.has, has) in
    subst (λ s. IsSeatOf gate s) is a.of_desk.sits

-- at a desk that began so
pub AreWatched-began : (always : Bool) (found : Option (List ℕ)) (start begun : Start) (all : List EntryValue) (lines later : List LineValue) → start ≡ begun
    → AreAllServed (IsWatched always found start.quota start.book.opening (length start.book.entries) all) start.book.entries all lines later
    → AreAllServed (IsWatched always found begun.quota begun.book.opening (length begun.book.entries) all) begun.book.entries all lines later
AreWatched-began always found start begun all lines later is served = subst (λ k. AreAllServed (IsWatched always found k.quota k.book.opening (length k.book.entries) all) k.book.entries all lines later) is served
