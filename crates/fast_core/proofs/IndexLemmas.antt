-- Who isn't enrolled is on no board, and nobody is on one that wasn't set up.
use Rattle.std.proofs.Common.{◌≡◌, ℕ, ◌+◌, Bool, true, false, ◌||◌, nat_eq, Option, None, Some, is_some, List, [], ◌∷◌, length, filter, refl, sym, ap, ◌∙◌, arith}
use Rattle.std.specs.List.{find, list_any}
use Rattle.std.proofs.lemmas.Bool.{false≢true}
use Rattle.std.proofs.lemmas.Bool.Decides.{nat_tests}
use Rattle.desk_model.specs.histories.History.{History}
use Rattle.desk_model.specs.histories.Register.{person_of, board_of, persons, boards}
use Rattle.desk_model.specs.boards.Boards.{is_on, boards_of, links, order}
use Rattle.desk_model.specs.laws.RestsOn.{IsListed}
use Rattle.desk_register.specs.Among.{index_among, board_index}

-- the laws
abbrev pub OnAreListed : History → Type 0
OnAreListed h = (p : ℕ) (b : List ℕ) → is_on h p b ≡ true → IsListed h p b

abbrev pub PersonsHaveIndexes : History → Type 0
PersonsHaveIndexes h = (p : ℕ) → is_some (index_among (persons h) p) ≡ is_some (person_of h p)

abbrev pub BoardsHaveIndexes : History → Type 0
BoardsHaveIndexes h = (b : List ℕ) → is_some (board_index (boards h) b) ≡ is_some (board_of h b)

pub off-nobody : (h : History) (p : ℕ) (b : List ℕ) → OnAreListed h → PersonsHaveIndexes h → index_among (persons h) p ≡ None → false ≡ is_on h p b
off-nobody h p b listed indexed none = go (is_on h p b) refl
  where
    go : (on : Bool) → is_on h p b ≡ on → false ≡ on
    go true on = absurd (false≢true (sym (ap is_some none) ∙ indexed p ∙ (listed p b on).enrolled))
    go false on = refl

pub off-nowhere : (h : History) (p : ℕ) (b : List ℕ) → OnAreListed h → BoardsHaveIndexes h → board_index (boards h) b ≡ None → false ≡ is_on h p b
off-nowhere h p b listed indexed none = go (is_on h p b) refl
  where
    go : (on : Bool) → is_on h p b ≡ on → false ≡ on
    go true on = absurd (false≢true (sym (ap is_some none) ∙ indexed b ∙ (listed p b on).board))
    go false on = refl

pub boards_of-nobody : (h : History) (p : ℕ) → OnAreListed h → PersonsHaveIndexes h → index_among (persons h) p ≡ None → 0 ≡ length (boards_of h p)
boards_of-nobody h p listed indexed none = go (boards h)
  where
    go : (codes : List (List ℕ)) → 0 ≡ length (filter (is_on h p) codes)
    go [] = refl
    go (b ∷ codes) = rw (sym (off-nobody h p b listed indexed none)) (go codes)

unset : (h : History) (b : List ℕ) → BoardsHaveIndexes h → board_index (boards h) b ≡ None → board_of h b ≡ None
unset h b indexed none = go (board_of h b) (sym (indexed b) ∙ ap is_some none)
  where
    go : {X : Type 0} (known : Option X) → is_some known ≡ false → known ≡ None
    go None is = refl
    go (Some x) is = absurd (false≢true (sym is))

-- so such a board has no members
pub order-nowhere : (h : History) (b : List ℕ) → ((c : List ℕ) → board_of h c ≡ None → order h c ≡ []) → BoardsHaveIndexes h → board_index (boards h) b ≡ None → order h b ≡ []
order-nowhere h b empty indexed none = empty b (unset h b indexed none)

-- who isn't on a board has no link of it
pub not-linked : (b : List ℕ) (p : ℕ) (ps : List ℕ) (n : ℕ) → list_any (nat_eq p) ps ≡ false → None ≡ find (λ link. nat_eq link.person p) (links b n ps)
not-linked b p [] n out = refl
not-linked b p (q ∷ ps) n out = go (nat_eq p q) refl out (not-linked b p ps (n + 1))
  where
    go : (here : Bool) → nat_eq p q ≡ here → (here || list_any (nat_eq p) ps) ≡ false
        → (list_any (nat_eq p) ps ≡ false → None ≡ find (λ link. nat_eq link.person p) (links b (n + 1) ps)) → None ≡ find (λ link. nat_eq link.person p) (links b n (q ∷ ps))
    go true is out rest = absurd (false≢true (sym out))
    go false is out rest = let other : nat_eq q p ≡ false = grind (arith, nat_tests, is) in rw other (rest out)
