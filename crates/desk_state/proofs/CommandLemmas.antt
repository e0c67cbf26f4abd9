-- What a command that was done makes of one board, beside what it makes of that board's order.
use Rattle.std.proofs.Common.{◌≡◌, ◌≢◌, ◌<◌, ◌≤◌, ℕ, Bool, true, false, cond, nat_eq, List, [], ◌∷◌, ◌++◌, length, get_or, Option, None, Some, is_some, refl, sym, ap, ◌∙◌, ◌⊎◌, inl, inr, arith, subst}
use Rattle.std.proofs.lemmas.Bool.{false≢true, ne_eqb, cases_lt, cases_eq}
use Rattle.std.proofs.lemmas.List.{length-map}
use Rattle.std.proofs.lemmas.Option.{slice_get-get_or, slice_get_within, same_Some}
use Rattle.std.proofs.lemmas.Slice.Eq.{bytes_eq-Decides}
use Rattle.std.specs.Prelude.{if◌then◌else◌}
use Rattle.std.specs.List.{slice_get, list_any}
use Rattle.std.specs.Option.{option_map}
use Rattle.std.specs.Str.{bytes_eq}
use Rattle.duty_events.specs.declared.event.Event.{Event}
use Rattle.duty_events.specs.declared.event.Event.TheVariants as event
use Rattle.pool_board.specs.Board.{BoardValue, IsSameSort}
use Rattle.pool_board.specs.Members.{persons as members_in, is_listed, without}
use Rattle.pool_board.proofs.MemberLemmas.{persons-append, without-absent}
use Rattle.desk_model.specs.declared.command.Cmd.{Cmd}
use Rattle.desk_model.specs.declared.command.Cmd.TheVariants as cmd
use Rattle.desk_model.specs.declared.offer.Offer.{Offer}
use Rattle.desk_model.specs.declared.limits.TheConstants.{MEMBER_LIMIT}
use Rattle.desk_model.specs.statements.Entry.{EntryValue}
use Rattle.desk_model.specs.histories.History.{History, with_entry}
use Rattle.desk_model.specs.histories.Register.{board_of, persons, boards, sets_up_any}
use Rattle.desk_model.specs.offers.Offers.{is_of, is_to, open_offer}
use Rattle.desk_model.specs.boards.Boards.{is_on, order}
use Rattle.desk_model.specs.histories.Duty.{tells}
use Rattle.desk_model.specs.laws.Comes.{sent_last}
use Rattle.desk_model.specs.laws.RestsOn.{RestsOn}
use Rattle.desk_register.specs.Among.{index_among, board_index}
use Rattle.desk_register.specs.Done.{IsDone}
use Rattle.desk_register.proofs.PersonLemmas.{same, same_number}
use Rattle.desk_state.specs.declared.named_indexes.NamedIndexes.{NamedIndexes}
use Rattle.desk_state.specs.Words.{has_board, word_of, is_in}
use Rattle.desk_state.specs.Changes.{is_final_at, SetsUp, TakesOn, LetsGo, Moves, IsThen, BecomesBy}
use Rattle.desk_state.specs.Laws.{Laws}
use Rattle.desk_state.specs.Lists.{ready_minute, setup_of, KeepsLists, Names, mover, mover_board}
use Rattle.desk_state.proofs.LawLemmas.{said-done, ordered_by, ordered, ready-same}
use Rattle.desk_state.proofs.IndexedLemmas.{board-at, boards-apart}
use Rattle.desk_state.proofs.BoardLemmas.{AllReady, ready-empty, ready-stays, ready-taken, ready-gone, ready-moved}

-- the board at an index before an entry, and after it
pub record Before (h : History) (j : ℕ) (v : BoardValue) : Type 0 where
  pub order_is : (b : List ℕ) → slice_get (boards h) j ≡ Some b → members_in v.members ≡ order h b
  pub empty : length (boards h) ≤ j → v.members ≡ []
  pub ready : AllReady (ready_minute h) v.members
  pub setup : (b : List ℕ) → slice_get (boards h) j ≡ Some b → board_of h b ≡ Some (setup_of v)

pub record After (h : History) (e : EntryValue) (c : Cmd) (j : ℕ) (v x : BoardValue) : Type 0 where
  pub order_is : (b : List ℕ) → slice_get (boards h) j ≡ Some b → members_in x.members ≡ ordered h c b (members_in v.members)
  pub empty : length (boards h) ≤ j → x.members ≡ []
  pub ready : AllReady (ready_minute (with_entry h e)) x.members
  pub setup : (b : List ℕ) → slice_get (boards h) j ≡ Some b → setup_of x ≡ setup_of v

-- ---- the indexes that are named

-- there is a board at the index, or it lies behind them
board-or-past : (codes : List (List ℕ)) (j : ℕ) → ((b : List ℕ) × (slice_get codes j ≡ Some b)) ⊎ (length codes ≤ j)
board-or-past codes j = elim (cases_lt j (length codes)) [
  | inl within ↦ inl (get_or codes j [], slice_get-get_or codes j [] within)
  | inr past ↦ inr past
]

some-index : (named known : Option ℕ) → named ≡ known → is_some known ≡ true → (i : ℕ) × ((named ≡ Some i) × (known ≡ Some i))
some-index named None is some = absurd (false≢true some)
some-index named (Some i) is some = (i, (is, refl))

pub rests-done : (h : History) (e : EntryValue) (c : Cmd) → Laws h e → IsDone e c → RestsOn h c
rests-done h e c laws is = subst (RestsOn h) is.of (laws.rests is.done)

pub person-index : (h : History) (e : EntryValue) (c : Cmd) (n : NamedIndexes) (p : ℕ) → Laws h e → IsDone e c → Names h e n → mover c ≡ Some p
    → (is_some (index_among (persons h) p) ≡ true) → (i : ℕ) × ((n.person ≡ Some i) × (index_among (persons h) p ≡ Some i))
person-index h e c n p laws is names mine enrolled = some-index n.person (index_among (persons h) p) (names.person p (said-done mover e c is ∙ mine)) enrolled

pub named-index : (h : History) (e : EntryValue) (c : Cmd) (n : NamedIndexes) (b : List ℕ) → Laws h e → IsDone e c → Names h e n → mover_board h c ≡ Some b
    → is_some (board_of h b) ≡ true → (j : ℕ) × ((n.board ≡ Some j) × (slice_get (boards h) j ≡ Some b))
named-index h e c n b laws is names mine set_up =
    let found = some-index n.board (board_index (boards h) b) (names.board b (said-done (mover_board h) e c is ∙ mine)) (laws.boards_indexed b ∙ set_up) in
    (found.0, (found.1.0, board-at (boards h) b found.0 found.1.1))

-- who is on a board is listed there
listed-is : (h : History) (e : EntryValue) (j p : ℕ) (v : BoardValue) (b : List ℕ) → Laws h e → Before h j v → slice_get (boards h) j ≡ Some b → is_listed p v.members ≡ is_on h p b
listed-is h e j p v b laws before at = ap (list_any (nat_eq p)) (before.order_is b at) ∙ laws.those b p

-- a board of the same sort and place was set up so
same-setup : (v x : BoardValue) → IsSameSort v x → setup_of x ≡ setup_of v
same-setup v x same_sort = ap (λ p. record { extra = x.extra; place = p }) same_sort.0 ∙ ap (λ s. record { extra = s; place = v.place }) same_sort.1

-- ---- a board that stays

stays : (h : History) (e : EntryValue) (c : Cmd) (j : ℕ) (v x : BoardValue) → Before h j v
    → ((b : List ℕ) → slice_get (boards h) j ≡ Some b → ordered h c b (members_in v.members) ≡ members_in v.members)
    → ((p : ℕ) → is_listed p v.members ≡ true → ready_minute (with_entry h e) p ≡ ready_minute h p) → x ≡ v → After h e c j v x
stays h e c j v x before order_same ready_same is = record {
  order_is = λ b at. ap (λ y. members_in y.members) is ∙ sym (order_same b at);
  empty = λ past. ap (λ y. y.members) is ∙ before.empty past;
  ready = subst (λ ms. AllReady (ready_minute (with_entry h e)) ms) (ap (λ y. y.members) (sym is)) (ready-stays (ready_minute h) (ready_minute (with_entry h e)) v.members ready_same before.ready);
  setup = λ b at. ap setup_of is;
}

untold : (h : History) (e : EntryValue) (c : Cmd) → Laws h e → IsDone e c → ((p : ℕ) → tells p c ≡ None) → (p : ℕ) → ready_minute (with_entry h e) p ≡ ready_minute h p
untold h e c laws is none p = ready-same h e p laws.comes (said-done (tells p) e c is ∙ none p)

-- ---- a board is set up

set_up-row : (h : History) (e : EntryValue) (b place : List ℕ) (extra : Bool) (n : NamedIndexes) (j : ℕ) (v x : BoardValue) → Laws h e → IsDone e (cmd.Board b extra place) → Names h e n
    → Before h j v → IsThen (is_of j n.board) (SetsUp extra place) v x → After h e (cmd.Board b extra place) j v x
set_up-row h e b place extra n j v x laws is names before becomes =
    let last : n.board ≡ Some (length (boards h)) = names.set_up b (said-done sets_up_any e (cmd.Board b extra place) is) in
    go (nat_eq (length (boards h)) j) refl (subst (λ o. IsThen (is_of j o) (SetsUp extra place) v x) last becomes)
  where
    go : (here : Bool) → nat_eq (length (boards h)) j ≡ here → IsThen here (SetsUp extra place) v x → After h e (cmd.Board b extra place) j v x
    go true here becomes =
        let is_last : length (boards h) ≡ j = same_number (length (boards h)) j here in
        let past : length (boards h) ≤ j = omega arith in
        let nobody : x.members ≡ [] = ap (λ y. y.members) (becomes (before.empty past)) in
        record {
          order_is = λ a at. absurd (omega (arith, slice_get_within (boards h) j a at));
          empty = λ behind. nobody;
          ready = ready-empty (ready_minute (with_entry h e)) x.members nobody;
          setup = λ a at. absurd (omega (arith, slice_get_within (boards h) j a at));
        }
    go false here becomes = stays h e (cmd.Board b extra place) j v x before (λ a at. refl)
        (λ p in_it. untold h e (cmd.Board b extra place) laws is (λ q. refl) p) becomes

-- ---- a person is put on a board

list-row : (h : History) (e : EntryValue) (p : ℕ) (b : List ℕ) (n : NamedIndexes) (kept : List BoardValue) (listed : ℕ → ℕ → Bool) (j : ℕ) (v x : BoardValue) → Laws h e → IsDone e (cmd.List p b)
    → Names h e n → KeepsLists kept listed h → Before h j v → IsThen (is_of j n.board) (TakesOn p n.ready) v x → After h e (cmd.List p b) j v x
list-row h e p b n kept listed j v x laws is names keeps before becomes =
    let rests = rests-done h e (cmd.List p b) laws is in
    let named = named-index h e (cmd.List p b) n b laws is names refl rests.board in
    go named.0 named.1.1 (nat_eq named.0 j) refl (subst (λ o. IsThen (is_of j o) (TakesOn p n.ready) v x) named.1.0 becomes)
  where
    ready_same : (q : ℕ) → ready_minute (with_entry h e) q ≡ ready_minute h q
    ready_same q = untold h e (cmd.List p b) laws is (λ r. refl) q

    go : (k : ℕ) → slice_get (boards h) k ≡ Some b → (here : Bool) → nat_eq k j ≡ here → IsThen here (TakesOn p n.ready) v x → After h e (cmd.List p b) j v x
    go k k_at true here becomes =
        let rests = rests-done h e (cmd.List p b) laws is in
        let at : slice_get (boards h) j ≡ Some b = subst (λ i. slice_get (boards h) i ≡ Some b) (same_number k j here) k_at in
        let out : is_listed p v.members ≡ false = listed-is h e j p v b laws before at ∙ rests.off in
        let many : length v.members ≡ length (order h b) = sym (length-map v.members (λ s. s.person)) ∙ ap length (before.order_is b at) in
        let room : length v.members < MEMBER_LIMIT = subst (λ i. i < MEMBER_LIMIT) (sym many) rests.room in
        let done = becomes out room in
        record {
          order_is = λ a a_at.
              let one : bytes_eq b a ≡ true = (bytes_eq-Decides b a).1 (same_Some b a (sym at ∙ a_at)) in
              ap members_in done.1 ∙ persons-append v.members (record { person = p; ready = n.ready })
              ∙ rw (one, one, same p) (ap (λ ps. ps ++ p ∷ []) (sym (without-absent p (members_in v.members) out)));
          empty = λ past. absurd (omega (arith, slice_get_within (boards h) j b at, past));
          ready = ready-taken (ready_minute h) (ready_minute (with_entry h e)) p n.ready v.members x.members (λ q other. ready_same q) (names.ready p (said-done mover e (cmd.List p b) is)) out done.1 before.ready;
          setup = λ a a_at. same-setup v x done.0;
        }
    go k k_at false here becomes = stays h e (cmd.List p b) j v x before
        (λ a at. let other : bytes_eq b a ≡ false = sym (boards-apart (boards h) b a k j keeps.apart k_at at) ∙ here in rw other refl)
        (λ q in_it. ready_same q) becomes

-- ---- and taken off it

unlist-row : (h : History) (e : EntryValue) (p : ℕ) (b : List ℕ) (n : NamedIndexes) (kept : List BoardValue) (listed : ℕ → ℕ → Bool) (j : ℕ) (v x : BoardValue) → Laws h e → IsDone e (cmd.Unlist p b)
    → Names h e n → KeepsLists kept listed h → Before h j v → IsThen (is_of j n.board) (LetsGo p) v x → After h e (cmd.Unlist p b) j v x
unlist-row h e p b n kept listed j v x laws is names keeps before becomes =
    let rests = rests-done h e (cmd.Unlist p b) laws is in
    let named = named-index h e (cmd.Unlist p b) n b laws is names refl rests.board in
    go named.0 named.1.1 (nat_eq named.0 j) refl (subst (λ o. IsThen (is_of j o) (LetsGo p) v x) named.1.0 becomes)
  where
    ready_same : (q : ℕ) → ready_minute (with_entry h e) q ≡ ready_minute h q
    ready_same q = untold h e (cmd.Unlist p b) laws is (λ r. refl) q

    go : (k : ℕ) → slice_get (boards h) k ≡ Some b → (here : Bool) → nat_eq k j ≡ here → IsThen here (LetsGo p) v x → After h e (cmd.Unlist p b) j v x
    go k k_at true here becomes =
        let rests = rests-done h e (cmd.Unlist p b) laws is in
        let at : slice_get (boards h) j ≡ Some b = subst (λ i. slice_get (boards h) i ≡ Some b) (same_number k j here) k_at in
        let done = becomes (listed-is h e j p v b laws before at ∙ rests.on) in
        record {
          order_is = λ a a_at. let one : bytes_eq b a ≡ true = (bytes_eq-Decides b a).1 (same_Some b a (sym at ∙ a_at)) in done.order ∙ rw one refl;
          empty = λ past. absurd (omega (arith, slice_get_within (boards h) j b at, past));
          ready = ready-gone (ready_minute h) (ready_minute (with_entry h e)) p v x ready_same done before.ready;
          setup = λ a a_at. same-setup v x done.sort;
        }
    go k k_at false here becomes = stays h e (cmd.Unlist p b) j v x before
        (λ a at. let other : bytes_eq b a ≡ false = sym (boards-apart (boards h) b a k j keeps.apart k_at at) ∙ here in rw other refl)
        (λ q in_it. ready_same q) becomes

-- ---- a person moves on each of their boards, and is ready from the minute

move-row : (h : History) (e : EntryValue) (c : Cmd) (p m j : ℕ) (theirs last : Bool) (v x : BoardValue) → Laws h e → Before h j v
    → ((b : List ℕ) → slice_get (boards h) j ≡ Some b → theirs ≡ is_on h p b) → (length (boards h) ≤ j → theirs ≡ false) → m ≡ ready_minute (with_entry h e) p
    → ((q : ℕ) → q ≢ p → ready_minute (with_entry h e) q ≡ ready_minute h q)
    → ((b : List ℕ) → slice_get (boards h) j ≡ Some b → ordered h c b (members_in v.members) ≡ (if last then sent_last false p (members_in v.members) else members_in v.members))
    → IsThen theirs (Moves last p m) v x → After h e c j v x
move-row h e c p m j true last v x laws before on past mine same_others ordered_is becomes = elim (board-or-past (boards h) j) [
  | inr behind ↦ absurd (false≢true (sym (past behind)))
  | inl found ↦
      let b = found.0 in
      let at = found.1 in
      let in_it : is_listed p v.members ≡ true = listed-is h e j p v b laws before at ∙ sym (on b at) in
      let done = becomes in_it in
      record {
        order_is = λ a a_at. done.order ∙ sym (ordered_is a a_at ∙ moved last in_it);
        empty = λ behind. absurd (false≢true (sym (past behind)));
        ready = ready-moved (ready_minute h) (ready_minute (with_entry h e)) p m last v x same_others mine done before.ready;
        setup = λ a a_at. same-setup v x done.sort;
      }
]
  where
    moved : (at_bottom : Bool) → is_listed p v.members ≡ true → cond at_bottom (sent_last false p (members_in v.members)) (members_in v.members)
        ≡ cond at_bottom (without p (members_in v.members) ++ p ∷ []) (members_in v.members)
    moved true in_it = rw in_it refl
    moved false in_it = refl
move-row h e c p m j false last v x laws before on past mine same_others ordered_is is = stays h e c j v x before
    (λ b at. ordered_is b at ∙ unmoved last (out b at))
    (λ q in_it. elim (cases_eq q p) [
      | inl this ↦ absurd (nowhere (ap (λ r. is_listed r v.members) (sym this) ∙ in_it))
      | inr other ↦ same_others q other
    ]) is
  where
    out : (b : List ℕ) → slice_get (boards h) j ≡ Some b → is_listed p v.members ≡ false
    out b at = listed-is h e j p v b laws before at ∙ sym (on b at)

    unmoved : (at_bottom : Bool) → is_listed p v.members ≡ false → cond at_bottom (sent_last false p (members_in v.members)) (members_in v.members) ≡ members_in v.members
    unmoved true away = rw away refl
    unmoved false away = refl

    nowhere : is_listed p v.members ≡ true → ⊥
    nowhere in_it = elim (board-or-past (boards h) j) [
      | inr behind ↦ false≢true (ap (is_listed p) (sym (before.empty behind)) ∙ in_it)
      | inl found ↦ false≢true (sym (out found.0 found.1) ∙ in_it)
    ]

-- those of whom nothing is told but one
untold-others : (h : History) (e : EntryValue) (c : Cmd) (p : ℕ) → Laws h e → IsDone e c → ((q : ℕ) → nat_eq p q ≡ false → tells q c ≡ None)
    → (q : ℕ) → q ≢ p → ready_minute (with_entry h e) q ≡ ready_minute h q
untold-others h e c p laws is none q other = ready-same h e q laws.comes (said-done (tells q) e c is ∙ none q (ne_eqb p q (λ this. other (sym this))))

-- the boards of the person whom a command names, by their word
word-on : (h : History) (n : NamedIndexes) (words : List ℕ) (kept : List BoardValue) (word i j p : ℕ) (b : List ℕ) → KeepsLists kept (is_in words) h → word ≡ word_of words n.person → n.person ≡ Some i
    → index_among (persons h) p ≡ Some i → slice_get (boards h) j ≡ Some b → has_board word j ≡ is_on h p b
word-on h n words kept word i j p b keeps word_is named indexed at = ap (λ w. has_board w j) (word_is ∙ ap (word_of words) named) ∙ keeps.on p i j b indexed at

word-past : (h : History) (n : NamedIndexes) (words : List ℕ) (kept : List BoardValue) (word i j : ℕ) → KeepsLists kept (is_in words) h → word ≡ word_of words n.person → n.person ≡ Some i
    → length (boards h) ≤ j → has_board word j ≡ false
word-past h n words kept word i j keeps word_is named past = ap (λ w. has_board w j) (word_is ∙ ap (word_of words) named) ∙ keeps.nowhere i j past

moves-row : (h : History) (e : EntryValue) (c : Cmd) (n : NamedIndexes) (words : List ℕ) (kept : List BoardValue) (word p j : ℕ) (last : Bool) (v x : BoardValue) → Laws h e → IsDone e c → Names h e n
    → KeepsLists kept (is_in words) h → word ≡ word_of words n.person → mover c ≡ Some p → is_some (index_among (persons h) p) ≡ true → ((q : ℕ) → nat_eq p q ≡ false → tells q c ≡ None)
    → Before h j v
    → ((b : List ℕ) → slice_get (boards h) j ≡ Some b → ordered h c b (members_in v.members) ≡ (if last then sent_last false p (members_in v.members) else members_in v.members))
    → IsThen (has_board word j) (Moves last p n.ready) v x → After h e c j v x
moves-row h e c n words kept word p j last v x laws is names keeps word_is mine enrolled none before ordered_is becomes =
    let found = person-index h e c n p laws is names mine enrolled in
    move-row h e c p n.ready j (has_board word j) last v x laws before (λ b at. word-on h n words kept word found.0 j p b keeps word_is found.1.0 found.1.1 at)
    (λ past. word-past h n words kept word found.0 j keeps word_is found.1.0 past) (names.ready p (said-done mover e c is ∙ mine)) (untold-others h e c p laws is none) ordered_is becomes

-- ---- the board that a declined offer was made from, and that of a final release

pub offer-to : (o : Option Offer) (p : ℕ) → is_to p o ≡ true → (offer : Offer) × (o ≡ Some offer)
offer-to None p to = absurd (false≢true to)
offer-to (Some offer) p to = (offer, refl)

-- an index among all boards tells whether a board there is this one, also where it is none
position-tells : (h : History) (e : EntryValue) (b a : List ℕ) (k : Option ℕ) (j : ℕ) (v : BoardValue) → Laws h e → (kept : List BoardValue) → (listed : ℕ → ℕ → Bool) → KeepsLists kept listed h
    → board_index (boards h) b ≡ k → slice_get (boards h) j ≡ Some a → board_of h a ≡ Some (setup_of v) → is_of j k ≡ bytes_eq b a
position-tells h e b a (Some k) j v laws kept listed keeps is at set_up = boards-apart (boards h) b a k j keeps.apart (board-at (boards h) b k is) at
position-tells h e b a None j v laws kept listed keeps is at set_up = go (bytes_eq b a) refl
  where
    go : (one : Bool) → bytes_eq b a ≡ one → false ≡ one
    go true one = absurd (false≢true (ap is_some (sym is) ∙ ap (λ x. is_some (board_index (boards h) x)) ((bytes_eq-Decides b a).0 one) ∙ laws.boards_indexed a ∙ ap is_some set_up))
    go false one = refl

decline-ordered : (h : History) (vac p : ℕ) (offer : Offer) (b : List ℕ) (last : Bool) (ps : List ℕ) → open_offer h vac ≡ Some offer → last ≡ bytes_eq offer.board b
    → ordered h (cmd.Decline vac p) b ps ≡ (if last then sent_last false p ps else ps)
decline-ordered h vac p offer b last ps made is = rw (made, is) (go (bytes_eq offer.board b))
  where
    go : (here : Bool) → ordered_by (cmd.Decline vac p) b (cond here (Some p) None) ps ≡ cond here (sent_last false p ps) ps
    go true = refl
    go false = refl

happened-ordered : (h : History) (p : ℕ) (t : Event) (b : List ℕ) (v : BoardValue) (ps : List ℕ) → board_of h b ≡ Some (setup_of v)
    → ordered h (cmd.Happened p t) b ps ≡ (if is_final_at v.place t then sent_last false p ps else ps)
happened-ordered h p (event.Final m at) b v ps is = rw is (go (bytes_eq v.place at))
  where
    go : (here : Bool) → ordered_by (cmd.Happened p (event.Final m at)) b (cond here (Some p) None) ps ≡ cond here (sent_last false p ps) ps
    go true = refl
    go false = refl
happened-ordered h p other b v ps is = refl

-- ---- each command

pub command-makes : (h : History) (e : EntryValue) (c : Cmd) (n : NamedIndexes) (words : List ℕ) (kept : List BoardValue) (word j : ℕ) (v x : BoardValue) → Laws h e → IsDone e c → Names h e n
    → KeepsLists kept (is_in words) h → word ≡ word_of words n.person → Before h j v → BecomesBy c n word j v x → After h e c j v x
command-makes h e (cmd.Board b extra place) n words kept word j v x laws is names keeps word_is before becomes = set_up-row h e b place extra n j v x laws is names before becomes
command-makes h e (cmd.List p b) n words kept word j v x laws is names keeps word_is before becomes = list-row h e p b n kept (is_in words) j v x laws is names keeps before becomes
command-makes h e (cmd.Unlist p b) n words kept word j v x laws is names keeps word_is before becomes = unlist-row h e p b n kept (is_in words) j v x laws is names keeps before becomes
command-makes h e (cmd.MarkOn p) n words kept word j v x laws is names keeps word_is before becomes =
    moves-row h e (cmd.MarkOn p) n words kept word p j true v x laws is names keeps word_is refl (laws.persons_indexed p ∙ rests-done h e (cmd.MarkOn p) laws is)
    (λ q other. refl) before (λ b at. refl) becomes
command-makes h e (cmd.Decline vac p) n words kept word j v x laws is names keeps word_is before becomes =
    let rests = rests-done h e (cmd.Decline vac p) laws is in
    let offer = offer-to (open_offer h vac) p rests.to in
    let whose : n.board ≡ board_index (boards h) offer.0.board = names.board offer.0.board (said-done (mover_board h) e (cmd.Decline vac p) is ∙ ap (option_map (λ o. o.board)) offer.1) in
    moves-row h e (cmd.Decline vac p) n words kept word p j (is_of j n.board) v x laws is names keeps word_is refl (laws.persons_indexed p ∙ rests.enrolled)
    (λ q other. refl) before
    (λ b at. decline-ordered h vac p offer.0 b (is_of j n.board) (members_in v.members) offer.1
    (ap (is_of j) whose ∙ position-tells h e offer.0.board b (board_index (boards h) offer.0.board) j v laws kept (is_in words) keeps refl at (before.setup b at))) becomes
command-makes h e (cmd.Past p t) n words kept word j v x laws is names keeps word_is before becomes =
    moves-row h e (cmd.Past p t) n words kept word p j false v x laws is names keeps word_is refl (laws.persons_indexed p ∙ rests-done h e (cmd.Past p t) laws is)
    (λ q other. rw other refl) before (λ b at. refl) becomes
command-makes h e (cmd.Happened p t) n words kept word j v x laws is names keeps word_is before becomes =
    moves-row h e (cmd.Happened p t) n words kept word p j (is_final_at v.place t) v x laws is names keeps word_is refl (laws.persons_indexed p ∙ rests-done h e (cmd.Happened p t) laws is)
    (λ q other. rw other refl) before (λ b at. happened-ordered h p t b v (members_in v.members) (before.setup b at)) becomes
command-makes h e other n words kept word j v x laws is names keeps word_is before becomes =
    stays h e other j v x before (λ b at. refl) (λ p in_it. untold h e other laws is (λ q. refl) p) becomes
