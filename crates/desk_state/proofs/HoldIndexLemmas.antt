-- First indexes in lists to which something comes or nothing.
use Rattle.std.proofs.Common.{◌≡◌, ℕ, Bool, true, false, cond, List, [], ◌++◌, length, append-nil, Option, None, Some, is_some, unwrap_or, sym, ap, ◌∙◌}
use Rattle.std.specs.Prelude.{position}
use Rattle.std.specs.Option.{option_or}
use Rattle.std.specs.List.{cons_option}
use Rattle.std.proofs.lemmas.Bool.{false≢true}
use Rattle.desk_register.proofs.IndexAmongLemmas.{position-push}

-- an index that is there stays when something comes or nothing
pub position-stays : {X : Type 0} (test : X → Bool) (xs : List X) (more : Option X) (i : ℕ) → position test xs ≡ Some i → position test (xs ++ cons_option more []) ≡ Some i
position-stays test xs None i is = ap (position test) (append-nil xs) ∙ is
position-stays test xs (Some x) i is = position-push test xs x ∙ ap (λ o. option_or o (cond (test x) (Some (length xs)) None)) is

-- and where none is, one that is there then is the last
pub position-new : {X : Type 0} (test : X → Bool) (xs : List X) (more : Option X) (i : ℕ) → position test xs ≡ None → position test (xs ++ cons_option more []) ≡ Some i → i ≡ length xs
position-new test xs None i none is = absurd (false≢true (ap is_some (sym none ∙ sym (ap (position test) (append-nil xs)) ∙ is)))
position-new test xs (Some x) i none is = go (test x) (sym (position-push test xs x ∙ ap (λ o. option_or o (cond (test x) (Some (length xs)) None)) none) ∙ is)
  where
    go : (passes : Bool) → cond passes (Some (length xs)) None ≡ Some i → i ≡ length xs
    go true is = ap (λ o. unwrap_or o 0) (sym is)
    go false is = absurd (false≢true (ap is_some is))
