-- What is kept of holds goes on as the history does.
use Rattle.std.proofs.Common.{◌≡◌, ◌≤◌, ◌+◌, ℕ, max, Bool, true, false, ◌&&◌, cond, nat_eq, List, [], ◌∷◌, ◌++◌, length, Option, None, Some, unwrap_or, refl, sym, ap, ◌∙◌, length-append, arith}
use Rattle.std.specs.Prelude.{if◌then◌else◌, position}
use Rattle.std.specs.Str.{bytes_eq}
use Rattle.std.specs.List.{cons_option}
use Rattle.std.proofs.lemmas.Bool.Decides.{nat_tests}
use Rattle.std.proofs.lemmas.Slice.Eq.{bytes_eq-Decides}
use Rattle.desk_model.specs.declared.limits.TheConstants.{HOLD}
use Rattle.desk_model.specs.declared.offer.Offer.{Offer}
use Rattle.desk_model.specs.statements.Entry.{EntryValue}
use Rattle.desk_model.specs.histories.History.{History, with_entry, said}
use Rattle.desk_model.specs.histories.Register.{enrols_any, sets_up_any, persons, boards}
use Rattle.desk_model.specs.offers.Offers.{open_offer}
use Rattle.desk_model.specs.offers.Held.{hold_end}
use Rattle.desk_model.specs.laws.Comes.{Comes}
use Rattle.desk_register.specs.Among.{index_among, board_index}
use Rattle.desk_register.proofs.IndexAmongLemmas.{number-decides, position-lt, indexes-differ, indexed-differ}
use Rattle.desk_state.specs.OfferTold.{decliner}
use Rattle.desk_state.specs.Holds.{end_for, AreHolds}
use Rattle.desk_state.proofs.HoldIndexLemmas.{position-stays, position-new}
use Rattle.desk_state.proofs.HearLemmas.{Declines, no-hold, hold-told}

-- ---- one person more, or one board

persons-grown : {X : Type 0} (ends : ℕ → ℕ → ℕ) (test : X → Bool) (xs : List X) (more : Option X) (board : Option ℕ) → ((i j : ℕ) → length xs ≤ i → ends i j ≡ 0)
    → end_for ends (position test (xs ++ cons_option more [])) board ≡ end_for ends (position test xs) board
persons-grown ends test xs more board behind = go (position test xs) (position test (xs ++ cons_option more [])) board refl refl
  where
    go : (was is : Option ℕ) (board : Option ℕ) → position test xs ≡ was → position test (xs ++ cons_option more []) ≡ is → end_for ends is board ≡ end_for ends was board
    go (Some i) is board x y = ap (λ o. end_for ends o board) (sym y ∙ position-stays test xs more i x)
    go None None board x y = refl
    go None (Some i) None x y = refl
    go None (Some i) (Some j) x y = behind i j (omega (arith, position-new test xs more i x y))

boards-grown : {X : Type 0} (ends : ℕ → ℕ → ℕ) (test : X → Bool) (xs : List X) (more : Option X) (person : Option ℕ) → ((i j : ℕ) → length xs ≤ j → ends i j ≡ 0)
    → end_for ends person (position test (xs ++ cons_option more [])) ≡ end_for ends person (position test xs)
boards-grown ends test xs more None beyond = refl
boards-grown ends test xs more (Some i) beyond = go (position test xs) (position test (xs ++ cons_option more [])) refl refl
  where
    go : (was is : Option ℕ) → position test xs ≡ was → position test (xs ++ cons_option more []) ≡ is → end_for ends (Some i) is ≡ end_for ends (Some i) was
    go (Some j) is x y = ap (end_for ends (Some i)) (sym y ∙ position-stays test xs more j x)
    go None None x y = refl
    go None (Some j) x y = beyond i j (omega (arith, position-new test xs more j x y))

grown : (h : History) (e : EntryValue) (ends : ℕ → ℕ → ℕ) (p : ℕ) (b : List ℕ) → Comes h e → ((i j : ℕ) → length (persons h) ≤ i → ends i j ≡ 0)
    → ((i j : ℕ) → length (boards h) ≤ j → ends i j ≡ 0)
    → end_for ends (index_among (persons (with_entry h e)) p) (board_index (boards (with_entry h e)) b) ≡ end_for ends (index_among (persons h) p) (board_index (boards h) b)
grown h e ends p b comes behind beyond =
    ap (λ ns. end_for ends (index_among ns p) (board_index (boards (with_entry h e)) b)) comes.persons
    ∙ persons-grown ends (nat_eq p) (persons h) (said enrols_any e) (board_index (boards (with_entry h e)) b) behind
    ∙ ap (λ codes. end_for ends (index_among (persons h) p) (board_index codes b)) comes.boards
    ∙ boards-grown ends (bytes_eq b) (boards h) (said sets_up_any e) (index_among (persons h) p) beyond

longer : {X : Type 0} (xs ys : List X) (more : Option X) (i : ℕ) → ys ≡ xs ++ cons_option more [] → length ys ≤ i → length xs ≤ i
longer xs ys more i is above = omega (arith, ap length is, length-append xs (cons_option more []), above)

-- ---- where nobody declines

max-none : (m : ℕ) → max m 0 ≡ m
max-none m = omega arith

pub holds-stay : (h : History) (e : EntryValue) (ends : ℕ → ℕ → ℕ) → Comes h e → said decliner e ≡ None → AreHolds ends h → AreHolds ends (with_entry h e)
holds-stay h e ends comes none are = record {
  each = λ p b. grown h e ends p b comes are.behind are.beyond ∙ are.each p b
      ∙ sym (comes.hold_end (b ∷ []) p ∙ ap (λ o. max (hold_end h (b ∷ []) p) (unwrap_or o 0)) (no-hold (b ∷ []) p h e.moment e none) ∙ max-none (hold_end h (b ∷ []) p));
  behind = λ i j above. are.behind i j (longer (persons h) (persons (with_entry h e)) (said enrols_any e) i comes.persons above);
  beyond = λ i j above. are.beyond i j (longer (boards h) (boards (with_entry h e)) (said sets_up_any e) j comes.boards above);
}

-- ---- where somebody declines

-- the table holds the person at this index by the board at this one until then
abbrev pub Raises : ℕ → ℕ → ℕ → (ℕ → ℕ → ℕ) → (ℕ → ℕ → ℕ) → Type 0
Raises index board until ends later = (i j : ℕ) → later i j ≡ (if nat_eq index i && nat_eq board j then max (ends i j) until else ends i j)

module _
    (h : History) (e : EntryValue) (ends later : ℕ → ℕ → ℕ) (who index board until : ℕ) (offer : Offer) (comes : Comes h e) (is : Declines e who) (was : open_offer h is.vac ≡ Some offer)
    (indexed : index_among (persons h) who ≡ Some index) (from : board_index (boards h) offer.board ≡ Some board) (until_is : until ≡ e.moment + HOLD)
    (raises : Raises index board until ends later) (are : AreHolds ends h) where
  raised-at : (i j : ℕ) (mine here : Bool) → nat_eq index i ≡ mine → nat_eq board j ≡ here → later i j ≡ max (ends i j) (cond (mine && here) until 0)
  raised-at i j true true x y = raises i j ∙ rw (x, y) refl
  raised-at i j true false x y = raises i j ∙ rw (x, y) (sym (max-none (ends i j)))
  raised-at i j false here x y = raises i j ∙ rw x (sym (max-none (ends i j)))

  other-index : (i j : ℕ) → nat_eq index i ≡ false → later i j ≡ ends i j
  other-index i j x = raises i j ∙ rw x refl

  other-board : (i j : ℕ) → nat_eq board j ≡ false → later i j ≡ ends i j
  other-board i j y = raises i j ∙ rw y (go (nat_eq index i))
    where
      go : (mine : Bool) → cond (mine && false) (max (ends i j) until) (ends i j) ≡ ends i j
      go true = refl
      go false = refl

  behind : (i j : ℕ) → length (persons h) ≤ i → later i j ≡ 0
  behind i j above =
      let low = position-lt (nat_eq who) (persons h) index 0 indexed in
      other-index i j (grind (arith, nat_tests, low, above)) ∙ are.behind i j above

  beyond : (i j : ℕ) → length (boards h) ≤ j → later i j ≡ 0
  beyond i j above =
      let low = position-lt (bytes_eq offer.board) (boards h) board [] from in
      other-board i j (grind (arith, nat_tests, low, above)) ∙ are.beyond i j above

  raised : (p : ℕ) (b : List ℕ) (i j : Option ℕ) → index_among (persons h) p ≡ i → board_index (boards h) b ≡ j
      → end_for later i j ≡ max (end_for ends i j) (cond (nat_eq who p && bytes_eq offer.board b) until 0)
  raised p b (Some i) (Some j) x y =
      raised-at i j (nat_eq who p) (bytes_eq offer.board b) (indexes-differ nat_eq number-decides (persons h) 0 who p index i indexed x)
      (indexes-differ bytes_eq bytes_eq-Decides (boards h) [] offer.board b board j from y)
  raised p b None j x y = rw (indexed-differ nat_eq number-decides (persons h) 0 who p index indexed x) refl
  raised p b (Some i) None x y = rw (indexed-differ bytes_eq bytes_eq-Decides (boards h) [] offer.board b board from y) (go (nat_eq who p))
    where
      go : (mine : Bool) → 0 ≡ max 0 (cond (mine && false) until 0)
      go true = refl
      go false = refl

  pub holds-raised : AreHolds later (with_entry h e)
  holds-raised = record {
    each = λ p b. grown h e later p b comes behind beyond ∙ raised p b (index_among (persons h) p) (board_index (boards h) b) refl refl
        ∙ ap (λ m. max m (cond (nat_eq who p && bytes_eq offer.board b) until 0)) (are.each p b)
        ∙ ap (λ m. max (hold_end h (b ∷ []) p) (cond (nat_eq who p && bytes_eq offer.board b) m 0)) until_is
        ∙ ap (max (hold_end h (b ∷ []) p)) (sym (hold-told h e who p b offer is was)) ∙ sym (comes.hold_end (b ∷ []) p);
    behind = λ i j above. behind i j (longer (persons h) (persons (with_entry h e)) (said enrols_any e) i comes.persons above);
    beyond = λ i j above. beyond i j (longer (boards h) (boards (with_entry h e)) (said sets_up_any e) j comes.boards above);
  }
