-- The lists keep on what a history says.
use Rattle.std.proofs.Common.{◌≡◌, ◌<◌, ◌≤◌, ℕ, Bool, true, false, List, [], length, Option, None, Some, is_some, unwrap_or, refl, sym, ap, ◌∙◌, ◌⊎◌, inl, inr, arith, subst}
use Rattle.std.proofs.lemmas.Bool.{false≢true}
use Rattle.std.proofs.lemmas.Option.{slice_get_within}
use Rattle.std.specs.List.{slice_get}
use Rattle.std.specs.Option.{option_map, option_or}
use Rattle.pool_board.specs.Board.{BoardValue}
use Rattle.pool_board.specs.Members.{persons as members_in, ready_of}
use Rattle.vacancy_fill.specs.Chain.{members_at}
use Rattle.desk_model.specs.declared.command.Cmd.{Cmd}
use Rattle.desk_model.specs.declared.board_setup.BoardSetup.{BoardSetup}
use Rattle.desk_model.specs.declared.limits.TheConstants.{PERSON_LIMIT, BOARD_LIMIT}
use Rattle.desk_model.specs.statements.Entry.{EntryValue}
use Rattle.desk_model.specs.histories.History.{History, with_entry, is_done, said}
use Rattle.desk_model.specs.histories.Register.{enrols_any, sets_up, sets_up_any, board_of, persons, boards}
use Rattle.desk_model.specs.boards.Boards.{is_on, order, puts, sends}
use Rattle.desk_model.specs.histories.Duty.{tells}
use Rattle.desk_model.specs.laws.Comes.{takes_off, left_by, order_by}
use Rattle.desk_register.specs.Among.{index_among}
use Rattle.desk_state.specs.Laws.{Laws}
use Rattle.desk_state.specs.Lists.{ready_minute, setup_of, KeepsLists}
use Rattle.desk_state.proofs.LawLemmas.{ready-same, may-enrol, enrols-on, may-set_up, set_up-on, set_up-order, nobody-on, nowhere-on}
use Rattle.desk_state.proofs.ListLemmas.{get-within}
use Rattle.desk_state.proofs.IndexedLemmas.{get-grown, index-grew, length-grown, length-grows}

-- what is kept says at the old indexes what the longer history says, and nothing at the new ones but where a new board is
pub record Follows (later : List BoardValue) (listed : ℕ → ℕ → Bool) (h : History) (e : EntryValue) : Type 0 where
  pub many : length later ≡ BOARD_LIMIT
  pub order_is : (j : ℕ) (b : List ℕ) → slice_get (boards h) j ≡ Some b → members_in (members_at later j) ≡ order (with_entry h e) b
  pub empty : (j : ℕ) → length (boards h) ≤ j → members_at later j ≡ []
  pub ready : (j p r : ℕ) → ready_of p (members_at later j) ≡ Some r → r ≡ ready_minute (with_entry h e) p
  pub setup : (j : ℕ) (b : List ℕ) → slice_get (boards h) j ≡ Some b → board_of h b ≡ option_map setup_of (slice_get later j)
  pub new_setup : (b : List ℕ) → said sets_up_any e ≡ Some b → board_of (with_entry h e) b ≡ option_map setup_of (slice_get later (length (boards h)))
  pub on : (p i j : ℕ) (b : List ℕ) → index_among (persons h) p ≡ Some i → slice_get (boards h) j ≡ Some b → listed i j ≡ is_on (with_entry h e) p b
  pub nobody : (i j : ℕ) → length (persons h) ≤ i → listed i j ≡ false
  pub nowhere : (i j : ℕ) → length (boards h) ≤ j → listed i j ≡ false

none-of : {X : Type 0} (o : Option X) → is_some o ≡ false → o ≡ None
none-of None is = refl
none-of (Some x) is = absurd (false≢true (sym is))

-- a board that has an index was set up
set_up-known : (kept : List BoardValue) (listed : ℕ → ℕ → Bool) (h : History) (j : ℕ) (b : List ℕ) → KeepsLists kept listed h → slice_get (boards h) j ≡ Some b → is_some (board_of h b) ≡ true
set_up-known kept listed h j b keeps at = go (slice_get kept j) (board_of h b) (keeps.setup j b at) (get-within kept j within)
  where
    within : j < length kept
    within = omega (arith, slice_get_within (boards h) j b at, keeps.few_boards, keeps.many)

    go : (v : Option BoardValue) (s : Option BoardSetup) → s ≡ option_map setup_of v → is_some v ≡ true → is_some s ≡ true
    go None s is some = absurd (false≢true some)
    go (Some v) None is some = absurd (false≢true (ap is_some is))
    go (Some v) (Some s) is some = refl

-- one that is new has none
new-apart : (kept : List BoardValue) (listed : ℕ → ℕ → Bool) (h : History) (e : EntryValue) (j : ℕ) (b : List ℕ) → Laws h e → KeepsLists kept listed h
    → said sets_up_any e ≡ Some b → slice_get (boards h) j ≡ Some b → ⊥
new-apart kept listed h e j b laws keeps new at = false≢true (sym (ap is_some (may-set_up h e b laws new).0) ∙ set_up-known kept listed h j b keeps at)

not-enrolled : (h : History) (e : EntryValue) (p : ℕ) → Laws h e → said enrols_any e ≡ Some p → (q : ℕ) (b : List ℕ) → p ≡ q → is_on (with_entry h e) q b ≡ false
not-enrolled h e p laws new q b same_person = enrols-on h e p q b laws new ∙ ap (λ x. is_on h x b) (sym same_person) ∙ nobody-on h e p b laws (may-enrol h e p laws new).0

old-board : (h : History) (e : EntryValue) (b : List ℕ) → Laws h e → is_some (board_of h b) ≡ true → board_of (with_entry h e) b ≡ board_of h b
old-board h e b laws known = laws.comes.board b ∙ go (board_of h b) known
  where
    go : (s : Option BoardSetup) → is_some s ≡ true → option_or s (said (sets_up b) e) ≡ s
    go None some = absurd (false≢true some)
    go (Some s) some = refl

pub follows-keep : (kept later : List BoardValue) (was listed : ℕ → ℕ → Bool) (h : History) (e : EntryValue) → Laws h e → KeepsLists kept was h → Follows later listed h e
    → KeepsLists later listed (with_entry h e)
follows-keep kept later was listed h e laws keeps follows = record {
  many = follows.many;
  few_persons = subst (λ ns. length ns ≤ PERSON_LIMIT) (sym laws.comes.persons) (length-grown (persons h) (said enrols_any e) PERSON_LIMIT keeps.few_persons (λ p new. (may-enrol h e p laws new).1));
  few_boards = subst (λ ns. length ns ≤ BOARD_LIMIT) (sym laws.comes.boards) (length-grown (boards h) (said sets_up_any e) BOARD_LIMIT keeps.few_boards (λ b new. (may-set_up h e b laws new).1));
  order = λ j b at. elim (grown j b at) [
    | inl old ↦ follows.order_is j b old
    | inr new ↦ ap members_in (follows.empty j (omega (arith, new.0))) ∙ sym (set_up-order h e b b laws new.1 ∙ laws.empty b (may-set_up h e b laws new.1).0)
  ];
  empty = λ j past. follows.empty j (behind j past);
  ready = follows.ready;
  setup = λ j b at. elim (grown j b at) [
    | inl old ↦ old-board h e b laws (set_up-known kept was h j b keeps old) ∙ follows.setup j b old
    | inr new ↦ follows.new_setup b new.1 ∙ ap (λ i. option_map setup_of (slice_get later i)) (sym new.0)
  ];
  on = λ p i j b indexed at. elim (index-grew (persons h) (said enrols_any e) p i (ap (λ ns. index_among ns p) (sym laws.comes.persons) ∙ indexed)) [
    | inl old ↦ elim (grown j b at) [
      | inl old_board ↦ follows.on p i j b old old_board
      | inr new ↦ follows.nowhere i j (omega (arith, new.0)) ∙ sym (set_up-on h e b p b laws new.1 ∙ nowhere-on h e p b laws (may-set_up h e b laws new.1).0)
    ]
    | inr new ↦ follows.nobody i j (omega (arith, new.0)) ∙ sym (not-enrolled h e p laws new.1 p b refl)
  ];
  nobody = λ i j past. follows.nobody i j (length-grows (persons h) (said enrols_any e) i (subst (λ ns. length ns ≤ i) laws.comes.persons past));
  nowhere = λ i j past. follows.nowhere i j (behind j past);
  apart = λ i j b one two. elim (grown i b one) [
    | inl old_one ↦ elim (grown j b two) [
      | inl old_two ↦ keeps.apart i j b old_one old_two
      | inr new_two ↦ absurd (new-apart kept was h e i b laws keeps new_two.1 old_one)
    ]
    | inr new_one ↦ elim (grown j b two) [
      | inl old_two ↦ absurd (new-apart kept was h e j b laws keeps new_one.1 old_two)
      | inr new_two ↦ new_one.0 ∙ sym new_two.0
    ]
  ];
}
  where
    grown : (j : ℕ) (b : List ℕ) → slice_get (boards (with_entry h e)) j ≡ Some b → (slice_get (boards h) j ≡ Some b) ⊎ ((j ≡ length (boards h)) × (said sets_up_any e ≡ Some b))
    grown j b at = get-grown (boards h) (said sets_up_any e) b j (ap (λ bs. slice_get bs j) (sym laws.comes.boards) ∙ at)

    behind : (j : ℕ) → length (boards (with_entry h e)) ≤ j → length (boards h) ≤ j
    behind j past = length-grows (boards h) (said sets_up_any e) j (subst (λ ns. length ns ≤ j) laws.comes.boards past)

-- ---- an entry that is refused, and a desk that was opened

quiet : {X : Type 0} (f : Cmd → Option X) (e : EntryValue) → is_done e.reply ≡ false → said f e ≡ None
quiet f e refused = rw refused refl

pub refused-keep : (kept : List BoardValue) (listed : ℕ → ℕ → Bool) (h : History) (e : EntryValue) → Laws h e → is_done e.reply ≡ false → KeepsLists kept listed h
    → KeepsLists kept listed (with_entry h e)
refused-keep kept listed h e laws refused keeps = follows-keep kept kept listed listed h e laws keeps record {
  many = keeps.many;
  order_is = λ j b at. keeps.order j b at ∙ sym (laws.comes.order b ∙ ap (λ o. order_by e b o (order h b)) (quiet (sends b h) e refused)
      ∙ ap (λ o. left_by o (order h b)) (quiet (takes_off b) e refused));
  empty = keeps.empty;
  ready = λ j p r at. keeps.ready j p r at ∙ sym (ready-same h e p laws.comes (quiet (tells p) e refused));
  setup = keeps.setup;
  new_setup = λ b is. absurd (false≢true (ap is_some (sym (quiet sets_up_any e refused) ∙ is)));
  on = λ p i j b indexed at. keeps.on p i j b indexed at ∙ sym (laws.comes.on p b ∙ ap (λ o. unwrap_or o (is_on h p b)) (quiet (puts b p) e refused));
  nobody = keeps.nobody;
  nowhere = keeps.nowhere;
}
