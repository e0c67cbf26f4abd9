-- Boards that are changed one after another.
use Rattle.std.proofs.Common.{◌≡◌, ◌≢◌, ◌<◌, ℕ, zero, suc, Bool, true, false, not, ◌||◌, ◌≤◌, if◌then◌else◌, nat_eq, List, [], ◌∷◌, ◌++◌, length, slice_set, Some, is_some, refl, sym, ap, ◌∙◌, subst, arith}
use Rattle.std.proofs.lemmas.Bool.{false≢true}
use Rattle.std.proofs.lemmas.Bool.Decides.{nat_tests}
use Rattle.std.proofs.lemmas.List.{get_or-set_same, get_or-set_other, length-set}
use Rattle.std.proofs.lemmas.Option.{slice_get-get_or, slice_get_within, get_or_from_slice_get, same_Some}
use Rattle.std.specs.List.{slice_get}
use Rattle.pool_board.specs.Board.{BoardValue}
use Rattle.vacancy_fill.specs.Chain.{members_at}
use Rattle.desk_model.specs.declared.command.Cmd.{Cmd}
use Rattle.desk_model.specs.declared.command.Cmd.TheVariants as cmd
use Rattle.desk_model.specs.offers.Offers.{is_of}
use Rattle.desk_model.specs.declared.limits.TheConstants.{BOARD_LIMIT}
use Rattle.desk_state.specs.Words.{has_board}
use Rattle.desk_state.specs.Changes.{IsThen, EachBecomes, BecomesBy}
use Rattle.desk_state.specs.declared.named_indexes.NamedIndexes.{NamedIndexes}

get-set_same : {X : Type 0} (xs : List X) (i : ℕ) (x : X) → i < length xs → slice_get (slice_set xs i x) i ≡ Some x
get-set_same xs i x within = slice_get-get_or (slice_set xs i x) i x (subst (λ n. i < n) (sym (length-set xs i x)) within) ∙ ap Some (get_or-set_same xs i x x within)

get-set_other : {X : Type 0} (xs : List X) (i j : ℕ) (x y : X) → j ≢ i → slice_get xs j ≡ Some y → slice_get (slice_set xs i x) j ≡ Some y
get-set_other xs i j x y apart at =
    slice_get-get_or (slice_set xs i x) j y (subst (λ n. j < n) (sym (length-set xs i x)) (slice_get_within xs j y at))
    ∙ ap Some (get_or-set_other xs i j x y apart ∙ get_or_from_slice_get xs j y y at)

-- those that the word has are as they were, and the others are changed
abbrev pub Except : ℕ → (ℕ → BoardValue → BoardValue → Type 0) → List BoardValue → List BoardValue → Type 0
Except left Becomes old now = EachBecomes (λ k. IsThen (not (has_board left k)) (Becomes k)) old now

-- the next of them is changed
pub except-less : (Becomes : ℕ → BoardValue → BoardValue → Type 0) (i left later : ℕ) (old now : List BoardValue) (y z : BoardValue) → Except left Becomes old now
    → has_board left i ≡ true → ((j : ℕ) → has_board later j ≡ (if nat_eq i j then false else has_board left j))
    → slice_get now i ≡ Some y → Becomes i y z → Except later Becomes old (slice_set now i z)
except-less Becomes i left later old now y z all has less here becomes k b at = go (nat_eq i k) refl (all k b at)
  where
    go : (this : Bool) → nat_eq i k ≡ this → (x : BoardValue) × ((slice_get now k ≡ Some x) × IsThen (not (has_board left k)) (Becomes k) b x)
        → (x : BoardValue) × ((slice_get (slice_set now i z) k ≡ Some x) × IsThen (not (has_board later k)) (Becomes k) b x)
    go true this was =
        let is : i ≡ k = grind (arith, nat_tests, this) in
        let stays : was.0 ≡ b = subst (λ t. IsThen (not t) (Becomes k) b was.0) (ap (has_board left) (sym is) ∙ has) was.1.1 in
        let whose : y ≡ b = same_Some y was.0 (sym here ∙ ap (slice_get now) is ∙ was.1.0) ∙ stays in
        let gone : has_board later k ≡ false = less k ∙ ap (λ t. if t then false else has_board left k) this in (
          z,
          (
            subst (λ n. slice_get (slice_set now i z) n ≡ Some z) is (get-set_same now i z (slice_get_within now i y here)),
            subst (λ t. IsThen (not t) (Becomes k) b z) (sym gone) (subst (λ n. Becomes n b z) is (subst (λ v. Becomes i v z) whose becomes)),
          ),
        )
    go false this was =
        let apart : k ≢ i = grind (arith, nat_tests, this) in
        let same : has_board later k ≡ has_board left k = less k ∙ ap (λ t. if t then false else has_board left k) this in
        (was.0, (get-set_other now i k z was.0 apart was.1.0, subst (λ t. IsThen (not t) (Becomes k) b was.0) (sym same) was.1.1))

-- where there is no such board none changes
pub except-past : (Becomes : ℕ → BoardValue → BoardValue → Type 0) (i left later : ℕ) (old now : List BoardValue) → Except left Becomes old now
    → ((j : ℕ) → has_board later j ≡ (if nat_eq i j then false else has_board left j)) → length old ≤ i → Except later Becomes old now
except-past Becomes i left later old now all less past k b at =
    let was = all k b at in
    let other : nat_eq i k ≡ false = grind (arith, nat_tests, past, slice_get_within old k b at) in
    let same : has_board later k ≡ has_board left k = less k ∙ ap (λ t. if t then false else has_board left k) other in
    (was.0, (was.1.0, subst (λ t. IsThen (not t) (Becomes k) b was.0) (sym same) was.1.1))

-- ---- boards that a command doesn't touch

no-then : (t : Bool) (Becomes : BoardValue → BoardValue → Type 0) (b : BoardValue) → t ≡ false → IsThen t Becomes b b
no-then t Becomes b not = subst (λ u. IsThen u Becomes b b) (sym not) refl

pub becomes-untouched : (c : Cmd) (n : NamedIndexes) (word j : ℕ) (b : BoardValue) → (is_of j n.board || has_board word j) ≡ false → BecomesBy c n word j b b
becomes-untouched c n word j b not = by_both c (or-none (is_of j n.board) (has_board word j) not)
  where
    or-none : (x y : Bool) → (x || y) ≡ false → (x ≡ false) × (y ≡ false)
    or-none false y not = (refl, not)
    or-none true y not = absurd (false≢true (sym not))

    by_both : (c : Cmd) → (is_of j n.board ≡ false) × (has_board word j ≡ false) → BecomesBy c n word j b b
    by_both (cmd.Board board extra place) both = no-then _ _ b both.0
    by_both (cmd.List p board) both = no-then _ _ b both.0
    by_both (cmd.Unlist p board) both = no-then _ _ b both.0
    by_both (cmd.MarkOn p) both = no-then _ _ b both.1
    by_both (cmd.Decline vac p) both = no-then _ _ b both.1
    by_both (cmd.Past p event) both = no-then _ _ b both.1
    by_both (cmd.Happened p event) both = no-then _ _ b both.1
    by_both other both = refl

-- so before any is changed, all are as they were that a command touches, and the others are what it makes of them
pub except-touched : (c : Cmd) (n : NamedIndexes) (word touched : ℕ) (old : List BoardValue) → length old ≤ BOARD_LIMIT
    → ((j : ℕ) → j < BOARD_LIMIT → has_board touched j ≡ (is_of j n.board || has_board word j)) → Except touched (BecomesBy c n word) old old
except-touched c n word touched old few are k b at = (b, (at, go (has_board touched k) refl))
  where
    within : k < BOARD_LIMIT
    within = omega (arith, few, slice_get_within old k b at)

    go : (t : Bool) → has_board touched k ≡ t → IsThen (not t) (BecomesBy c n word k) b b
    go true has = refl
    go false none = becomes-untouched c n word k b (sym (are k within) ∙ none)

-- one more board without members
pub empty-more : (boards : List BoardValue) (x : BoardValue) (j : ℕ) → ((i : ℕ) → members_at boards i ≡ []) → x.members ≡ [] → members_at (boards ++ x ∷ []) j ≡ []
empty-more [] x zero none empty = empty
empty-more [] x (suc j) none empty = refl
empty-more (y ∷ boards) x zero none empty = none zero
empty-more (y ∷ boards) x (suc j) none empty = empty-more boards x j (λ i. none (suc i)) empty

-- an index within a list has something
pub get-within : {X : Type 0} (xs : List X) (j : ℕ) → j < length xs → is_some (slice_get xs j) ≡ true
get-within [] j low = absurd (omega (arith, low))
get-within (x ∷ xs) zero low = refl
get-within (x ∷ xs) (suc j) low = get-within xs j (omega (arith, low))
