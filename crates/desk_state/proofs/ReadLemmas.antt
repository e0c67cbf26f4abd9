-- What is told of what is kept.
use Rattle.std.proofs.Common.{◌≡◌, ◌<◌, ◌≤◌, ◌+◌, ◌-◌, ◌%◌, ◌/◌, ◌^◌, ◌==◌, ◌||◌, ℕ, zero, suc, Bool, true, false, not, cond, bit_and, w64, nat_eq, nat_lt, max, slice_index_or, List, [], ◌∷◌, length, filter, Option, None, Some, is_some, refl, sym, ap, ◌∙◌, inl, inr, arith}
use Rattle.std.proofs.lemmas.Bool.{false≢true, cases_lt}
use Rattle.std.proofs.lemmas.Bool.Decides.{nat_tests}
use Rattle.std.proofs.lemmas.Option.{slice_get_within, same_Some}
use Rattle.std.proofs.lemmas.Nat.Bits.{bit_at_lowest, bit_at-suc, bit_at-zero, bit_at_above}
use Rattle.std.specs.Prelude.{IfSome}
use Rattle.std.proofs.lemmas.Nat.{and_le_r}
use Rattle.std.specs.Int.{bit_at, trailing_zeros}
use Rattle.std.specs.Int.Count.{ones_in, ones}
use Rattle.std.specs.List.{slice_get, list_any, find}
use Rattle.std.specs.Option.{option_map}
use Rattle.pool_board.specs.Board.{BoardValue}
use Rattle.pool_board.specs.Members.{persons as members_in}
use Rattle.pool_board.specs.Positions.{at_position}
use Rattle.pool_board.proofs.PositionLemmas.{at_position-from}
use Rattle.vacancy_fill.specs.Chain.{members_of}
use Rattle.desk_model.specs.declared.limits.TheConstants.{BOARD_LIMIT}
use Rattle.desk_model.specs.histories.History.{History}
use Rattle.desk_model.specs.histories.Register.{persons, boards}
use Rattle.desk_model.specs.boards.Boards.{is_on, boards_of, links, order}
use Rattle.desk_model.specs.boards.Rank.{IsOnce}
use Rattle.desk_register.specs.Among.{index_among, board_index}
use Rattle.desk_register.proofs.PersonLemmas.{same}
use Rattle.desk_state.specs.Words.{has_board, is_in}
use Rattle.desk_state.specs.Lists.{KeepsLists, IsOnOne}
use Rattle.desk_state.proofs.BitLemmas.{first-board, both-have}
use Rattle.desk_state.proofs.IndexedLemmas.{board-at}
use Rattle.desk_state.proofs.ListLemmas.{get-within}

-- ---- the members of a board

pub members-are : (kept : List BoardValue) (listed : ℕ → ℕ → Bool) (h : History) (b : List ℕ) (j : ℕ) (v : BoardValue) → KeepsLists kept listed h → board_index (boards h) b ≡ Some j
    → Some v ≡ slice_get kept j → members_in v.members ≡ order h b
members-are kept listed h b j v keeps at is = ap (λ o. members_in (members_of o)) is ∙ keeps.order j b (board-at (boards h) b j at)

pub is-kept : (kept : List BoardValue) (listed : ℕ → ℕ → Bool) (h : History) (b : List ℕ) (j : ℕ) → KeepsLists kept listed h → board_index (boards h) b ≡ Some j → None ≡ slice_get kept j → ⊥
is-kept kept listed h b j keeps at none =
    let low : j < length kept = omega (arith, slice_get_within (boards h) j b (board-at (boards h) b j at), keeps.few_boards, keeps.many) in
    false≢true (ap is_some none ∙ get-within kept j low)

pub position-tells : (ps : List ℕ) (position : ℕ) → at_position ps (max position 1) ≡ slice_get ps (position - 1)
position-tells ps position = let same_position : max position 1 - 1 ≡ position - 1 = omega arith in at_position-from ps (max position 1) (omega arith) ∙ ap (slice_get ps) same_position

-- ---- the position of a person

number-other : (p q : ℕ) → nat_eq p q ≡ false → nat_eq q p ≡ false
number-other p q other = grind (arith, nat_tests, other)

any-at : (q p : ℕ) (ps : List ℕ) (k : ℕ) → slice_get ps k ≡ Some p → list_any (nat_eq q) ps ≡ false → nat_eq q p ≡ false
any-at q p [] k at out = absurd (false≢true (ap is_some at))
any-at q p (r ∷ ps) zero at out = ap (nat_eq q) (sym (same_Some r p at)) ∙ first (nat_eq q r) out
  where
    first : (x : Bool) → (x || list_any (nat_eq q) ps) ≡ false → x ≡ false
    first true out = out
    first false out = refl
any-at q p (r ∷ ps) (suc k) at out = any-at q p ps k at (rest (nat_eq q r) out)
  where
    rest : (x : Bool) → (x || list_any (nat_eq q) ps) ≡ false → list_any (nat_eq q) ps ≡ false
    rest true out = absurd (false≢true (sym out))
    rest false out = out

find-at : (b : List ℕ) (p : ℕ) (ps : List ℕ) (n k : ℕ) → IsOnce ps → slice_get ps k ≡ Some p
    → find (λ link. nat_eq link.person p) (links b n ps) ≡ Some (record { board = b; position = n + k; person = p })
find-at b p [] n k once at = absurd (false≢true (ap is_some at))
find-at b p (q ∷ ps) n zero once at =
    let one : q ≡ p = same_Some q p at in
    let here : n + 0 ≡ n = omega arith in
    rw (one, same p, here) refl
find-at b p (q ∷ ps) n (suc k) once at =
    let next : n + 1 + k ≡ n + suc k = omega arith in
    rw (any-at q p ps k at once.0) (find-at b p ps (n + 1) k once.1 at ∙ ap (λ i. Some (record { board = b; position = i; person = p })) next)

find-none : (b : List ℕ) (p : ℕ) (ps : List ℕ) (n : ℕ) → list_any (nat_eq p) ps ≡ false → find (λ link. nat_eq link.person p) (links b n ps) ≡ None
find-none b p [] n out = refl
find-none b p (q ∷ ps) n out = go (nat_eq p q) refl out (find-none b p ps (n + 1))
  where
    go : (x : Bool) → nat_eq p q ≡ x → (x || list_any (nat_eq p) ps) ≡ false → (list_any (nat_eq p) ps ≡ false → find (λ link. nat_eq link.person p) (links b (n + 1) ps) ≡ None)
        → find (λ link. nat_eq link.person p) (links b n (q ∷ ps)) ≡ None
    go true is out rest = absurd (false≢true (sym out))
    go false is out rest = rw (number-other p q is) (rest out)

pub found : (b : List ℕ) (p : ℕ) (ps : List ℕ) (position : Option ℕ) → IsOnce ps → IfSome position (λ k. at_position ps k ≡ Some p) → is_some position ≡ list_any (nat_eq p) ps
    → find (λ link. nat_eq link.person p) (links b 1 ps) ≡ option_map (λ k. record { board = b; position = k; person = p }) position
found b p ps None once at listed = find-none b p ps 1 (sym listed)
found b p ps (Some zero) once at listed = absurd (false≢true (ap is_some at))
found b p ps (Some (suc k)) once at listed =
    let before : suc k - 1 ≡ k = omega arith in
    let next : 1 + k ≡ suc k = omega arith in
    find-at b p ps 1 k once (ap (slice_get ps) (sym before) ∙ sym (at_position-from ps (suc k) (omega arith)) ∙ at) ∙ ap (λ i. Some (record { board = b; position = i; person = p })) next

-- ---- how many boards a person is on

ones-none : (d n : ℕ) → ((j : ℕ) → (bit_at n j == 1) ≡ false) → ones_in d n ≡ 0
unfolding ones_in
ones-none zero n none = refl
ones-none (suc d) n none =
    let low : n % 2 ≡ 0 = even (none 0) in
    let rest = ones-none d (n / 2) (λ j. ap (λ x. x == 1) (sym (bit_at-suc n j)) ∙ none (suc j)) in
    omega (arith, low, rest)
  where
    even : (bit_at n 0 == 1) ≡ false → n % 2 ≡ 0
    even is = grind (arith, nat_tests, is, bit_at_lowest n)

-- as many bits are set as pass a test, where each bit says whether the one at its index does
ones-count : {X : Type 0} (test : X → Bool) (xs : List X) (d n : ℕ) → n ≤ d → ((j : ℕ) (x : X) → slice_get xs j ≡ Some x → (bit_at n j == 1) ≡ test x)
    → ((j : ℕ) → length xs ≤ j → (bit_at n j == 1) ≡ false) → ones_in d n ≡ length (filter test xs)
unfolding ones_in
ones-count test [] d n most bits none = ones-none d n (λ j. none j (omega arith))
ones-count test (x ∷ xs) zero n most bits none =
    let out : test x ≡ false = sym (bits 0 x refl) ∙ unset 0 in
    rw out (ones-count test xs zero n most (λ j y at. unset j ∙ sym (unset (suc j)) ∙ bits (suc j) y at) (λ j past. unset j))
  where
    unset : (j : ℕ) → (bit_at n j == 1) ≡ false
    unset j = let is : n ≡ 0 = omega (arith, most) in ap (λ k. bit_at k j == 1) is ∙ ap (λ k. k == 1) (bit_at-zero j)
ones-count test (x ∷ xs) (suc d) n most bits none =
    go (test x) (bits 0 x refl) (ones-count test xs d (n / 2) (omega (arith, most)) (λ j y at. ap (λ k. k == 1) (sym (bit_at-suc n j)) ∙ bits (suc j) y at)
    (λ j past. ap (λ k. k == 1) (sym (bit_at-suc n j)) ∙ none (suc j) (omega (arith, past))))
  where
    odd : (bit_at n 0 == 1) ≡ true → n % 2 ≡ 1
    odd is = grind (arith, nat_tests, is, bit_at_lowest n)

    even : (bit_at n 0 == 1) ≡ false → n % 2 ≡ 0
    even is = grind (arith, nat_tests, is, bit_at_lowest n)

    go : (passes : Bool) → (bit_at n 0 == 1) ≡ passes → ones_in d (n / 2) ≡ length (filter test xs) → n % 2 + ones_in d (n / 2) ≡ length (cond passes (x ∷ filter test xs) (filter test xs))
    go true is rest = omega (arith, odd is, rest)
    go false is rest = omega (arith, even is, rest)

ones-are : (n : ℕ) → ones n ≡ ones_in n n
unfolding ones
ones-are n = refl

pub boards-counted : (kept : List BoardValue) (words : List ℕ) (h : History) (p i word : ℕ) → KeepsLists kept (is_in words) h → index_among (persons h) p ≡ Some i → word < 2 ^ 64
    → word ≡ slice_index_or words i 0 → ones word ≡ length (boards_of h p)
boards-counted kept words h p i word keeps indexed fits is = ones-are word ∙ ones-count (is_on h p) (boards h) word word (omega arith)
    (λ j b at. bit j (omega (arith, slice_get_within (boards h) j b at, keeps.few_boards)) ∙ ap (λ w. has_board w j) is ∙ keeps.on p i j b indexed at)
    (λ j past. elim (cases_lt j BOARD_LIMIT) [
      | inl low ↦ bit j low ∙ ap (λ w. has_board w j) is ∙ keeps.nowhere i j past
      | inr high ↦ ap (λ k. k == 1) (bit_at_above word 64 j fits high)
    ])
  where
    bit : (j : ℕ) → j < BOARD_LIMIT → (bit_at word j == 1) ≡ has_board word j
    bit j low = let within : nat_lt j BOARD_LIMIT ≡ true = grind (arith, nat_tests, low) in rw within refl

-- ---- on one of some boards

pub on-one : (kept : List BoardValue) (words : List ℕ) (h : History) (p i searched : ℕ) → KeepsLists kept (is_in words) h → searched < 2 ^ 64 → index_among (persons h) p ≡ Some i
    → not (bit_and (slice_index_or words i 0) searched == 0) ≡ true → IsOnOne h p searched
on-one kept words h p i searched keeps fits indexed some =
    let word = slice_index_or words i 0 in
    let both = bit_and word searched in
    let above : 0 < both = grind (arith, nat_tests, some) in
    let first = first-board both above (omega (arith, and_le_r word searched, fits)) in
    let j = trailing_zeros w64 both in
    let has = both-have word searched j first.1 in
    go j has.0 has.1 (slice_get (boards h) j) refl
  where
    go : (j : ℕ) → is_in words i j ≡ true → has_board searched j ≡ true → (b : Option (List ℕ)) → slice_get (boards h) j ≡ b → IsOnOne h p searched
    go j listed has None at =
        let past : length (boards h) ≤ j = omega (arith, λ (low : j < length (boards h)). false≢true (ap is_some (sym at) ∙ get-within (boards h) j low)) in
        absurd (false≢true (sym (keeps.nowhere i j past) ∙ listed))
    go j listed has (Some b) at = record { index = j; board = b; at = at; has = has; on_it = sym (keeps.on p i j b indexed at) ∙ listed }
