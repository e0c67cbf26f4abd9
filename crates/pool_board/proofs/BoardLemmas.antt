-- What a board keeps after each change of its slots.
use Rattle.std.proofs.Common.{◌≡◌, ◌≢◌, refl, subst, ℕ, ◌+◌, ◌-◌, ◌<◌, ◌≤◌, true, false, Option, None, Some, List, [], ◌∷◌, ◌++◌, length, set, take, max, nat_eq, inl, inr, sym, ap, ◌∙◌, arith}
use Rattle.std.specs.List.{list_any}
use Rattle.std.proofs.lemmas.Bool.{cases_eq}
use Rattle.std.proofs.lemmas.List.{length-set, length-map, length_push, take_all}
use Rattle.slot_tree.specs.declared.slot.Slot.{Slot}
use Rattle.slot_tree.specs.Slots.{slot_at, with_ready, filled}
use Rattle.pool_board.specs.Members.{persons, is_listed, ready_of, without, are_distinct}
use Rattle.pool_board.specs.Board.{IsBoard}
use Rattle.pool_board.proofs.MemberLemmas.{distinct-without, distinct-append, without-out, persons-append, ready_of-append, ready_of-last}
use Rattle.pool_board.proofs.SlotLemmas.{persons-cleared, ready_of-cleared, length-cleared, persons-ready, ready_of-there}
use Rattle.pool_board.proofs.PositionLemmas.{filled-before_more}

pub is_board-out : (listed : ℕ) (slots new : List (Option Slot)) (i : ℕ) (x : Slot) → IsBoard listed slots → slot_at slots i ≡ Some x → new ≡ set slots i None → IsBoard (listed - 1) new
is_board-out listed slots new i x board is new_is = rw new_is record {
  long = length-set slots i None ∙ board.long;
  count = omega (arith, board.count, length-cleared slots i x is);
  most = omega (arith, board.most);
  distinct = ap are_distinct (persons-cleared slots i x is board.distinct) ∙ distinct-without x.person (persons (filled slots)) board.distinct;
}

pub is_board-in : (listed : ℕ) (slots new : List (Option Slot)) (x : Slot) → IsBoard listed slots → listed < 500 → is_listed x.person (filled slots) ≡ false
    → length new ≡ length slots → filled new ≡ filled slots ++ x ∷ [] → IsBoard (listed + 1) new
is_board-in listed slots new x board room out long order = record {
  long = long ∙ board.long;
  count = omega (arith, board.count, ap length order, length_push (filled slots) x);
  most = omega (arith, room);
  distinct = ap (λ ms. are_distinct (persons ms)) order ∙ ap are_distinct (persons-append (filled slots) x) ∙ distinct-append x.person (persons (filled slots)) out board.distinct;
}

pub is_board-ready : (listed : ℕ) (slots new : List (Option Slot)) (i m : ℕ) → IsBoard listed slots → new ≡ set slots i (with_ready m (slot_at slots i)) → IsBoard listed new
is_board-ready listed slots new i m board new_is = rw new_is record {
  long = length-set slots i (with_ready m (slot_at slots i)) ∙ board.long;
  count = board.count ∙ sym (length-map (filled slots) (λ s. s.person)) ∙ sym (ap length (persons-ready slots i m)) ∙ length-map (filled (set slots i (with_ready m (slot_at slots i)))) (λ s. s.person);
  most = board.most;
  distinct = ap are_distinct (persons-ready slots i m) ∙ board.distinct;
}

-- a person's slot is emptied, and the person comes last, ready from a minute on
pub is_listed-cleared : (slots : List (Option Slot)) (i : ℕ) (x : Slot) → slot_at slots i ≡ Some x → are_distinct (persons (filled slots)) ≡ true → is_listed x.person (filled (set slots i None)) ≡ false
is_listed-cleared slots i x is all = ap (list_any (nat_eq x.person)) (persons-cleared slots i x is all) ∙ without-out x.person (persons (filled slots))

pub is_board-moved : (listed : ℕ) (slots new : List (Option Slot)) (i m : ℕ) (x : Slot) → IsBoard listed slots → slot_at slots i ≡ Some x → length new ≡ length slots
    → filled new ≡ filled (set slots i None) ++ record { person = x.person; ready = m } ∷ [] → IsBoard listed new
is_board-moved listed slots new i m x board is long order =
    let some = length-cleared slots i x is in
    let again : listed - 1 + 1 ≡ listed = omega (arith, some, board.count) in
    subst (λ n. IsBoard n new) again
    (is_board-in (listed - 1) (set slots i None) new record { person = x.person; ready = m } (is_board-out listed slots (set slots i None) i x board is refl) (omega (arith, board.most, again))
    (is_listed-cleared slots i x is board.distinct) (long ∙ sym (length-set slots i None)) order)

pub persons-moved : (slots : List (Option Slot)) (members : List Slot) (i m : ℕ) (x : Slot) → slot_at slots i ≡ Some x → are_distinct (persons (filled slots)) ≡ true
    → members ≡ filled (set slots i None) ++ record { person = x.person; ready = m } ∷ [] → persons members ≡ without x.person (persons (filled slots)) ++ x.person ∷ []
persons-moved slots members i m x is all are = ap persons are ∙ persons-append (filled (set slots i None)) record { person = x.person; ready = m } ∙ ap (λ ps. ps ++ x.person ∷ []) (persons-cleared slots i x is all)

-- from that minute on the person is ready
pub ready_of-mover : (slots : List (Option Slot)) (members : List Slot) (i m : ℕ) (x : Slot) → slot_at slots i ≡ Some x → are_distinct (persons (filled slots)) ≡ true
    → members ≡ filled (set slots i None) ++ record { person = x.person; ready = m } ∷ [] → ready_of x.person members ≡ Some m
ready_of-mover slots members i m x is all are = ap (ready_of x.person) are ∙ ready_of-last (filled (set slots i None)) record { person = x.person; ready = m } (is_listed-cleared slots i x is all)

-- and each other one as before
pub ready_of-unmoved : (slots : List (Option Slot)) (members : List Slot) (i m : ℕ) (x : Slot) (who : ℕ) → slot_at slots i ≡ Some x → who ≢ x.person
    → members ≡ filled (set slots i None) ++ record { person = x.person; ready = m } ∷ [] → ready_of who members ≡ ready_of who (filled slots)
ready_of-unmoved slots members i m x who is other are =
    ap (ready_of who) are ∙ ready_of-append who (filled (set slots i None)) record { person = x.person; ready = m } other ∙ ready_of-cleared slots i x who is other

-- so is everybody where that is the minute from which the person was
pub ready_of-moved : (slots : List (Option Slot)) (members : List Slot) (i : ℕ) (x : Slot) (who : ℕ) → slot_at slots i ≡ Some x → are_distinct (persons (filled slots)) ≡ true
    → members ≡ filled (set slots i None) ++ x ∷ [] → ready_of who members ≡ ready_of who (filled slots)
ready_of-moved slots members i x who is all are = elim (cases_eq who x.person) [
  | inl same ↦
      ap (λ p. ready_of p members) same ∙ ready_of-mover slots members i x.ready x is all are
      ∙ sym (ready_of-there slots i x is all) ∙ ap (λ p. ready_of p (filled slots)) (sym same)
  | inr other ↦ ready_of-unmoved slots members i x.ready x who is other are
]

pub before-few : (slots : List (Option Slot)) (s : ℕ) → length (filled (take s slots)) ≤ length (filled slots)
before-few slots s =
    let all = take_all (max s (length slots)) slots (omega arith) in
    omega (arith, filled-before_more slots s (max s (length slots)) (omega arith), ap (λ xs. length (filled xs)) all)
