-- What is made has an index among all that was made.
use Rattle.std.proofs.Common.{◌≡◌, ◌+◌, ℕ, suc, Bool, true, false, not, cond, ◌||◌, nat_eq, nat_lt, List, [], ◌∷◌, length, Option, None, Some, is_some, refl, sym, ap, ◌∙◌, arith}
use Rattle.std.specs.Prelude.{position}
use Rattle.std.specs.Str.{bytes_eq}
use Rattle.std.specs.Option.{option_or}
use Rattle.std.specs.List.{list_any, filter_map, position_or_len, cons_option}
use Rattle.std.proofs.lemmas.Bool.{false≢true}
use Rattle.std.proofs.lemmas.Bool.Decides.{nat_tests}
use Rattle.std.proofs.lemmas.Slice.Eq.{bytes_eq-Decides}
use Rattle.desk_model.specs.declared.command.Cmd.{Cmd}
use Rattle.desk_model.specs.declared.command.Cmd.TheVariants as cmd
use Rattle.desk_model.specs.statements.Entry.{EntryValue}
use Rattle.desk_model.specs.histories.History.{History, is_done, said, first_of}
use Rattle.desk_model.specs.histories.Register.{enrols, enrols_any, sets_up, sets_up_any, person_of, board_of, persons, boards}
use Rattle.desk_register.specs.Among.{index_among, board_index}

-- an index is there where the test passes anywhere
position-any : {X : Type 0} (test : X → Bool) (xs : List X) → is_some (position test xs) ≡ list_any test xs
position-any test [] = refl
position-any test (x ∷ xs) = go (test x) (position-any test xs)
  where
    some : (b : Bool) (n : ℕ) → is_some (cond b (Some n) None) ≡ b
    some true n = refl
    some false n = refl

    go : (passes : Bool) → is_some (position test xs) ≡ list_any test xs
        → is_some (cond (nat_lt (cond (not passes) (1 + position_or_len test xs) 0) (suc (length xs))) (Some (cond (not passes) (1 + position_or_len test xs) 0)) None)
        ≡ (passes || list_any test xs)
    go true rest = let first : nat_lt 0 (suc (length xs)) ≡ true = grind (arith, nat_tests) in rw first refl
    go false rest = some (nat_lt (1 + position_or_len test xs) (suc (length xs))) (1 + position_or_len test xs)
        ∙ up (nat_lt (position_or_len test xs) (length xs)) refl ∙ sym (some (nat_lt (position_or_len test xs) (length xs)) (position_or_len test xs)) ∙ rest
      where
        up : (b : Bool) → nat_lt (position_or_len test xs) (length xs) ≡ b → nat_lt (1 + position_or_len test xs) (suc (length xs)) ≡ nat_lt (position_or_len test xs) (length xs)
        up true is = rw is grind (arith, nat_tests, is)
        up false is = rw is grind (arith, nat_tests, is)

-- where an entry makes something just where it says which, the same holds of entries
first-any : {X : Type 0} {Y : Type 0} (test : X → Bool) (g : EntryValue → Option Y) (f : EntryValue → Option X)
    → ((e : EntryValue) → is_some (g e) ≡ list_any test (cons_option (f e) [])) → (es : List EntryValue) → is_some (first_of g es) ≡ list_any test (filter_map f es)
first-any test g f same [] = refl
first-any test g f same (e ∷ later) = go (g e) (f e) (same e) (first-any test g f same later)
  where
    go : (makes : Option _) (which : Option _) → is_some makes ≡ list_any test (cons_option which []) → is_some (first_of g later) ≡ list_any test (filter_map f later)
        → is_some (option_or makes (first_of g later)) ≡ list_any test (cons_option which (filter_map f later))
    go None None is rest = rest
    go None (Some x) is rest = by_test (test x) is
      where
        by_test : (passes : Bool) → false ≡ (passes || false) → is_some (first_of g later) ≡ (passes || list_any test (filter_map f later))
        by_test true is = absurd (false≢true is)
        by_test false is = rest
    go (Some y) None is rest = absurd (false≢true (sym is))
    go (Some y) (Some x) is rest = by_test (test x) is
      where
        by_test : (passes : Bool) → true ≡ (passes || false) → true ≡ (passes || list_any test (filter_map f later))
        by_test true is = refl
        by_test false is = absurd (false≢true (sym is))

tested : {Y : Type 0} (b : Bool) (y : Y) → is_some (cond b (Some y) None) ≡ (b || false)
tested true y = refl
tested false y = refl

nat_eq-turn : (a b : ℕ) → nat_eq a b ≡ nat_eq b a
nat_eq-turn a b = go (nat_eq a b) (nat_eq b a) refl refl
  where
    go : (x y : Bool) → nat_eq a b ≡ x → nat_eq b a ≡ y → x ≡ y
    go true true x y = refl
    go false false x y = refl
    go true false x y = grind (arith, nat_tests, x, y)
    go false true x y = grind (arith, nat_tests, x, y)

bytes_eq-turn : (a b : List ℕ) → bytes_eq a b ≡ bytes_eq b a
bytes_eq-turn a b = go (bytes_eq a b) (bytes_eq b a) refl refl
  where
    go : (x y : Bool) → bytes_eq a b ≡ x → bytes_eq b a ≡ y → x ≡ y
    go true true x y = refl
    go false false x y = refl
    go true false x y = sym ((bytes_eq-Decides b a).1 (sym ((bytes_eq-Decides a b).0 x))) ∙ y
    go false true x y = sym x ∙ (bytes_eq-Decides a b).1 (sym ((bytes_eq-Decides b a).0 y))

said-same : {X : Type 0} {Y : Type 0} (test : X → Bool) (g : Cmd → Option Y) (f : Cmd → Option X) → ((c : Cmd) → is_some (g c) ≡ list_any test (cons_option (f c) []))
    → (e : EntryValue) → is_some (said g e) ≡ list_any test (cons_option (said f e) [])
said-same test g f same e = go (is_done e.reply)
  where
    go : (done : Bool) → is_some (cond done (g e.stated.cmd) None) ≡ list_any test (cons_option (cond done (f e.stated.cmd) None) [])
    go true = same e.stated.cmd
    go false = refl

enrols-same : (p : ℕ) (c : Cmd) → is_some (enrols p c) ≡ list_any (nat_eq p) (cons_option (enrols_any c) [])
enrols-same p (cmd.Enrol person craft home quals) = tested (nat_eq person p) _ ∙ ap (λ b. b || false) (nat_eq-turn person p)
enrols-same p other = refl

sets_up-same : (b : List ℕ) (c : Cmd) → is_some (sets_up b c) ≡ list_any (bytes_eq b) (cons_option (sets_up_any c) [])
sets_up-same b (cmd.Board board extra place) = tested (bytes_eq board b) _ ∙ ap (λ x. x || false) (bytes_eq-turn board b)
sets_up-same b other = refl

pub person-indexed : (h : History) (p : ℕ) → is_some (index_among (persons h) p) ≡ is_some (person_of h p)
person-indexed h p = position-any (nat_eq p) (persons h) ∙ sym (first-any (nat_eq p) (said (enrols p)) (said enrols_any) (said-same (nat_eq p) (enrols p) enrols_any (enrols-same p)) h.entries)

pub board-indexed : (h : History) (b : List ℕ) → is_some (board_index (boards h) b) ≡ is_some (board_of h b)
board-indexed h b = position-any (bytes_eq b) (boards h) ∙ sym (first-any (bytes_eq b) (said (sets_up b)) (said sets_up_any) (said-same (bytes_eq b) (sets_up b) sets_up_any (sets_up-same b)) h.entries)
