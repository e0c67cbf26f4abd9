-- The lists keep on what a history says by a command that was done.
use Rattle.std.proofs.Common.{◌≡◌, ◌<◌, ◌≤◌, ◌&&◌, ℕ, Bool, true, false, cond, nat_eq, List, [], length, Option, None, Some, is_some, unwrap_or, refl, sym, ap, ◌∙◌, ◌⊎◌, inl, inr, arith, subst}
use Rattle.std.proofs.lemmas.Bool.{false≢true, cases_lt}
use Rattle.std.proofs.lemmas.Bool.Decides.{nat_tests}
use Rattle.std.proofs.lemmas.Option.{slice_get_within, slice_get_past, same_Some}
use Rattle.std.proofs.lemmas.Slice.Eq.{bytes_eq-Decides}
use Rattle.std.specs.Prelude.{if◌then◌else◌}
use Rattle.std.specs.List.{slice_get}
use Rattle.std.specs.Option.{option_map, option_or}
use Rattle.std.specs.Str.{bytes_eq}
use Rattle.pool_board.specs.Board.{BoardValue}
use Rattle.pool_board.specs.Members.{persons as members_in, ready_of}
use Rattle.vacancy_fill.specs.Chain.{members_of, members_at}
use Rattle.desk_model.specs.declared.command.Cmd.{Cmd}
use Rattle.desk_model.specs.declared.command.Cmd.TheVariants as cmd
use Rattle.desk_model.specs.declared.limits.TheConstants.{BOARD_LIMIT}
use Rattle.desk_model.specs.statements.Entry.{EntryValue}
use Rattle.desk_model.specs.histories.History.{History, with_entry, said}
use Rattle.desk_model.specs.histories.Register.{sets_up, sets_up_any, board_of, persons, boards}
use Rattle.desk_model.specs.offers.Offers.{is_of}
use Rattle.desk_model.specs.boards.Boards.{is_on, puts}
use Rattle.desk_register.specs.Among.{index_among}
use Rattle.desk_register.specs.Done.{IsDone}
use Rattle.desk_register.proofs.PersonLemmas.{same}
use Rattle.desk_register.proofs.IndexAmongLemmas.{index-lt, indexes-apart}
use Rattle.desk_state.specs.declared.named_indexes.NamedIndexes.{NamedIndexes}
use Rattle.desk_state.specs.Words.{word_of, is_in, set_at}
use Rattle.desk_state.specs.Changes.{SetsUp, IsThen, BecomesBy, EachBecomes, put_by_both, put_by, AreWithin, HasRoom}
use Rattle.desk_state.specs.Laws.{Laws}
use Rattle.desk_state.specs.Lists.{setup_of, KeepsLists, Names, mover, mover_board}
use Rattle.desk_state.proofs.LawLemmas.{said-done, ordered, order-done, on-done, may-set_up}
use Rattle.desk_state.proofs.ListLemmas.{get-within}
use Rattle.desk_state.proofs.IndexedLemmas.{boards-apart}
use Rattle.desk_state.proofs.CommandLemmas.{Before, After, rests-done, person-index, named-index, command-makes}
use Rattle.desk_state.proofs.KeepLemmas.{follows-keep}

-- ---- who is on which

-- a command that puts a person on a board, or takes them off, is given their indexes
pub record AreIndexed (h : History) (n : NamedIndexes) (p : ℕ) (b : List ℕ) : Type 0 where
  pub person : ℕ
  pub board : ℕ
  pub person_named : n.person ≡ Some person
  pub board_named : n.board ≡ Some board
  pub person_at : index_among (persons h) p ≡ Some person
  pub board_at : slice_get (boards h) board ≡ Some b

indexed-by : (h : History) (e : EntryValue) (c : Cmd) (n : NamedIndexes) (p : ℕ) (b : List ℕ) → Laws h e → IsDone e c → Names h e n → mover c ≡ Some p → mover_board h c ≡ Some b
    → is_some (index_among (persons h) p) ≡ true → is_some (board_of h b) ≡ true → AreIndexed h n p b
indexed-by h e c n p b laws is names who where_is enrolled set_up =
    let one = person-index h e c n p laws is names who enrolled in
    let two = named-index h e c n b laws is names where_is set_up in
    record {
      person = one.0;
      board = two.0;
      person_named = one.1.0;
      board_named = two.1.0;
      person_at = one.1.1;
      board_at = two.1.1;
    }

list-indexed : (h : History) (e : EntryValue) (n : NamedIndexes) (p : ℕ) (b : List ℕ) → Laws h e → IsDone e (cmd.List p b) → Names h e n → AreIndexed h n p b
list-indexed h e n p b laws is names =
    let rests = rests-done h e (cmd.List p b) laws is in
    indexed-by h e (cmd.List p b) n p b laws is names refl refl (laws.persons_indexed p ∙ rests.enrolled) rests.board

unlist-indexed : (h : History) (e : EntryValue) (n : NamedIndexes) (p : ℕ) (b : List ℕ) → Laws h e → IsDone e (cmd.Unlist p b) → Names h e n → AreIndexed h n p b
unlist-indexed h e n p b laws is names =
    let rests = rests-done h e (cmd.Unlist p b) laws is in
    indexed-by h e (cmd.Unlist p b) n p b laws is names refl refl (laws.persons_indexed p ∙ rests.enrolled) rests.board

within : (h : History) (n : NamedIndexes) (p : ℕ) (b : List ℕ) (many : ℕ) → AreIndexed h n p b → length (persons h) ≤ many → length (boards h) ≤ BOARD_LIMIT → AreWithin many n
within h n p b many indexed persons_few boards_few = rw (indexed.person_named, indexed.board_named)
    (omega (arith, index-lt (persons h) p indexed.person indexed.person_at), omega (arith, slice_get_within (boards h) indexed.board b indexed.board_at))

pub room : (h : History) (e : EntryValue) (c : Cmd) (n : NamedIndexes) (many : ℕ) → Laws h e → IsDone e c → Names h e n → length (persons h) ≤ many → length (boards h) ≤ BOARD_LIMIT → HasRoom c many n
room h e (cmd.List p b) n many laws is names persons_few boards_few = within h n p b many (list-indexed h e n p b laws is names) persons_few boards_few
room h e (cmd.Unlist p b) n many laws is names persons_few boards_few = within h n p b many (unlist-indexed h e n p b laws is names) persons_few boards_few
room h e other n many laws is names persons_few boards_few = tt

-- a command that is given them sets what is kept there
put-indexed : (h : History) (c : Cmd) (n : NamedIndexes) (p i j : ℕ) (b : List ℕ) (was : Bool) → (indexed : AreIndexed h n p b) → put_by c n i j was ≡ put_by_both c (Some indexed.person) (Some indexed.board) i j was
put-indexed h c n p i j b was indexed = ap (λ x. put_by_both c x n.board i j was) indexed.person_named ∙ ap (λ x. put_by_both c (Some indexed.person) x i j was) indexed.board_named

-- what is set at the indexes of a person and a board is what is said of these
set-on : (h : History) (n : NamedIndexes) (p q i j : ℕ) (a b : List ℕ) (to was now : Bool) (kept : List BoardValue) (listed : ℕ → ℕ → Bool) → KeepsLists kept listed h → (indexed : AreIndexed h n q a)
    → index_among (persons h) p ≡ Some i → slice_get (boards h) j ≡ Some b → was ≡ now
    → set_at indexed.person indexed.board to i j was ≡ unwrap_or (if bytes_eq a b then (if nat_eq q p then Some to else None) else None) now
set-on h n p q i j a b to was now kept listed keeps indexed p_at b_at is =
    rw (indexes-apart (persons h) q p indexed.person i indexed.person_at p_at, boards-apart (boards h) a b indexed.board j keeps.apart indexed.board_at b_at) (go (nat_eq q p) (bytes_eq a b))
  where
    go : (x y : Bool) → cond (x && y) to was ≡ unwrap_or (cond y (cond x (Some to) None) None) now
    go true true = refl
    go true false = is
    go false true = is
    go false false = is

puts-on : (h : History) (e : EntryValue) (c : Cmd) (n : NamedIndexes) (p i j : ℕ) (b : List ℕ) (kept : List BoardValue) (listed : ℕ → ℕ → Bool) → Laws h e → IsDone e c → Names h e n → KeepsLists kept listed h
    → index_among (persons h) p ≡ Some i → slice_get (boards h) j ≡ Some b → put_by c n i j (listed i j) ≡ unwrap_or (puts b p c) (is_on h p b)
puts-on h e (cmd.List q a) n p i j b kept listed laws is names keeps p_at b_at =
    let indexed = list-indexed h e n q a laws is names in
    put-indexed h (cmd.List q a) n q i j a (listed i j) indexed ∙ set-on h n p q i j a b true (listed i j) (is_on h p b) kept listed keeps indexed p_at b_at (keeps.on p i j b p_at b_at)
puts-on h e (cmd.Unlist q a) n p i j b kept listed laws is names keeps p_at b_at =
    let indexed = unlist-indexed h e n q a laws is names in
    put-indexed h (cmd.Unlist q a) n q i j a (listed i j) indexed ∙ set-on h n p q i j a b false (listed i j) (is_on h p b) kept listed keeps indexed p_at b_at (keeps.on p i j b p_at b_at)
puts-on h e other n p i j b kept listed laws is names keeps p_at b_at = keeps.on p i j b p_at b_at

-- and nothing is set behind the persons or the boards
set-past : (h : History) (n : NamedIndexes) (q i j : ℕ) (a : List ℕ) (to was : Bool) → (indexed : AreIndexed h n q a) → (length (persons h) ≤ i) ⊎ (length (boards h) ≤ j)
    → set_at indexed.person indexed.board to i j was ≡ was
set-past h n q i j a to was indexed (inl past) =
    let low : indexed.person < length (persons h) = index-lt (persons h) q indexed.person indexed.person_at in
    let apart : nat_eq indexed.person i ≡ false = grind (arith, nat_tests, low, past) in
    rw apart refl
set-past h n q i j a to was indexed (inr past) =
    let low : indexed.board < length (boards h) = slice_get_within (boards h) indexed.board a indexed.board_at in
    let apart : nat_eq indexed.board j ≡ false = grind (arith, nat_tests, low, past) in
    rw apart (go (nat_eq indexed.person i))
  where
    go : (x : Bool) → cond (x && false) to was ≡ was
    go true = refl
    go false = refl

puts-past : (h : History) (e : EntryValue) (c : Cmd) (n : NamedIndexes) (i j : ℕ) (was : Bool) → Laws h e → IsDone e c → Names h e n → (length (persons h) ≤ i) ⊎ (length (boards h) ≤ j)
    → put_by c n i j was ≡ was
puts-past h e (cmd.List q a) n i j was laws is names past =
    let indexed = list-indexed h e n q a laws is names in put-indexed h (cmd.List q a) n q i j a was indexed ∙ set-past h n q i j a true was indexed past
puts-past h e (cmd.Unlist q a) n i j was laws is names past =
    let indexed = unlist-indexed h e n q a laws is names in put-indexed h (cmd.Unlist q a) n q i j a was indexed ∙ set-past h n q i j a false was indexed past
puts-past h e other n i j was laws is names past = refl

-- ---- the boards

-- a board of the 64 before the command and after it
pub record Changed (h : History) (e : EntryValue) (c : Cmd) (n : NamedIndexes) (word j : ℕ) (kept later : List BoardValue) : Type 0 where
  pub board : BoardValue
  pub then_board : BoardValue
  pub was : slice_get kept j ≡ Some board
  pub is : slice_get later j ≡ Some then_board
  pub becomes : BecomesBy c n word j board then_board
  pub after : After h e c j board then_board

before-of : (h : History) (kept : List BoardValue) (listed : ℕ → ℕ → Bool) (j : ℕ) (v : BoardValue) → KeepsLists kept listed h → slice_get kept j ≡ Some v → Before h j v
before-of h kept listed j v keeps at =
    let members : members_at kept j ≡ v.members = ap members_of at in
    record {
      order_is = λ b b_at. ap members_in (sym members) ∙ keeps.order j b b_at;
      empty = λ past. sym members ∙ keeps.empty j past;
      ready = λ p r is. keeps.ready j p r (ap (ready_of p) members ∙ is);
      setup = λ b b_at. keeps.setup j b b_at ∙ ap (option_map setup_of) at;
    }

changed-at : (h : History) (e : EntryValue) (c : Cmd) (n : NamedIndexes) (words : List ℕ) (word j : ℕ) (kept later : List BoardValue) → Laws h e → IsDone e c → Names h e n
    → KeepsLists kept (is_in words) h → word ≡ word_of words n.person → EachBecomes (BecomesBy c n word) kept later → j < BOARD_LIMIT → Changed h e c n word j kept later
changed-at h e c n words word j kept later laws is names keeps word_is each low = go (slice_get kept j) refl (get-within kept j (omega (arith, low, keeps.many)))
  where
    go : (o : Option BoardValue) → slice_get kept j ≡ o → is_some (slice_get kept j) ≡ true → Changed h e c n word j kept later
    go None at some = absurd (false≢true (ap is_some (sym at) ∙ some))
    go (Some v) at some = let x = each j v at in record {
      board = v;
      then_board = x.0;
      was = at;
      is = x.1.0;
      becomes = x.1.1;
      after = command-makes h e c n words kept word j v x.0 laws is names keeps word_is (before-of h kept (is_in words) j v keeps at) x.1.1;
    }

-- a board is as it was set up
set_up-as : (h : History) (c : Cmd) (n : NamedIndexes) (word : ℕ) (b : List ℕ) (v x : BoardValue) → n.board ≡ Some (length (boards h)) → sets_up_any c ≡ Some b → v.members ≡ []
    → BecomesBy c n word (length (boards h)) v x → sets_up b c ≡ Some (setup_of x)
set_up-as h (cmd.Board a extra place) n word b v x named is empty becomes =
    let one : bytes_eq a b ≡ true = (bytes_eq-Decides a b).1 (same_Some a b is) in
    let here : is_of (length (boards h)) n.board ≡ true = ap (is_of (length (boards h))) named ∙ same (length (boards h)) in
    let done = subst (λ t. IsThen t (SetsUp extra place) v x) here becomes in
    rw one (ap (λ y. Some (setup_of y)) (sym (done empty)))
set_up-as h other n word b v x named is empty becomes = absurd (false≢true (ap is_some is))

pub done-keep : (h : History) (e : EntryValue) (c : Cmd) (n : NamedIndexes) (words after_words : List ℕ) (word : ℕ) (kept later : List BoardValue) → Laws h e → IsDone e c → Names h e n
    → KeepsLists kept (is_in words) h → word ≡ word_of words n.person → length later ≡ length kept → EachBecomes (BecomesBy c n word) kept later
    → ((i j : ℕ) → is_in after_words i j ≡ put_by c n i j (is_in words i j)) → KeepsLists later (is_in after_words) (with_entry h e)
done-keep h e c n words after_words word kept later laws is names keeps word_is long each put = follows-keep kept later (is_in words) (is_in after_words) h e laws keeps record {
  many = long ∙ keeps.many;
  order_is = λ j b at.
      let it = at_old j b at in
      ap (λ o. members_in (members_of o)) it.is ∙ it.after.order_is b at ∙ ap (ordered h c b) (ap (λ o. members_in (members_of o)) (sym it.was) ∙ keeps.order j b at) ∙ sym (order-done h e c b laws.comes is);
  empty = λ j past. elim (here j) [
    | inl it ↦ ap members_of it.is ∙ it.after.empty past
    | inr none ↦ ap members_of none
  ];
  ready = λ j p r at. elim (here j) [
    | inl it ↦ it.after.ready p r (ap (λ o. ready_of p (members_of o)) (sym it.is) ∙ at)
    | inr none ↦ absurd (false≢true (ap is_some (ap (λ o. ready_of p (members_of o)) (sym none) ∙ at)))
  ];
  setup = λ j b at.
      let it = at_old j b at in
      keeps.setup j b at ∙ ap (option_map setup_of) it.was ∙ ap Some (sym (it.after.setup b at)) ∙ sym (ap (option_map setup_of) it.is);
  new_setup = λ b new.
      let may = may-set_up h e b laws new in
      let it = changed-at h e c n words word (length (boards h)) kept later laws is names keeps word_is each may.1 in
      let nobody : it.board.members ≡ [] = ap members_of (sym it.was) ∙ keeps.empty (length (boards h)) (omega arith) in
      laws.comes.board b ∙ ap (λ s. option_or s (said (sets_up b) e)) may.0 ∙ said-done (sets_up b) e c is
      ∙ set_up-as h c n word b it.board it.then_board (names.set_up b new) (sym (said-done sets_up_any e c is) ∙ new) nobody it.becomes ∙ sym (ap (option_map setup_of) it.is);
  on = λ p i j b p_at b_at. put i j ∙ puts-on h e c n p i j b kept (is_in words) laws is names keeps p_at b_at ∙ sym (on-done h e c p b laws.comes is);
  nobody = λ i j past. put i j ∙ puts-past h e c n i j (is_in words i j) laws is names (inl past) ∙ keeps.nobody i j past;
  nowhere = λ i j past. put i j ∙ puts-past h e c n i j (is_in words i j) laws is names (inr past) ∙ keeps.nowhere i j past;
}
  where
    at_old : (j : ℕ) (b : List ℕ) → slice_get (boards h) j ≡ Some b → Changed h e c n word j kept later
    at_old j b at = changed-at h e c n words word j kept later laws is names keeps word_is each (omega (arith, slice_get_within (boards h) j b at, keeps.few_boards))

    here : (j : ℕ) → Changed h e c n word j kept later ⊎ (slice_get later j ≡ None)
    here j = elim (cases_lt j BOARD_LIMIT) [
      | inl low ↦ inl (changed-at h e c n words word j kept later laws is names keeps word_is each low)
      | inr past ↦ inr (slice_get_past later j (omega (arith, past, long, keeps.many)))
    ]
