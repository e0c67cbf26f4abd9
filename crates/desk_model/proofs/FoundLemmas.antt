-- What holds of all that is searched holds of what is found.
use Rattle.std.proofs.Common.{◌≡◌, ℕ, Bool, true, false, cond, nat_eq, Option, None, Some, IfSome, unwrap_or, List, [], ◌∷◌, get_or, reverse, refl, sym, subst, ◌∙◌}
use Rattle.std.specs.Option.{option_map, option_or, option_to_list}
use Rattle.std.specs.List.{All, find, list_any, cons_option, filter_map}
use Rattle.std.proofs.lemmas.List.{reverse-append}
use Rattle.std.proofs.lemmas.List.Elements.{All-nil, All-cons, All-head, All-tail, All-append}
use Rattle.desk_model.specs.declared.command.Cmd.{Cmd}
use Rattle.desk_model.specs.statements.Entry.{EntryValue}
use Rattle.desk_model.specs.statements.Fits.{IsCommand, Fits}
use Rattle.desk_model.specs.histories.History.{said, first_of, last_of}
use Rattle.desk_model.specs.boards.Boards.{keep_last}
use Rattle.desk_model.proofs.SaidLemmas.{said-some}

-- what f says of an element has Q
abbrev pub Tells : {E : Type 0} {X : Type 0} → (E → Option X) → (X → Type 0) → E → Type 0
Tells f Q e = (x : _) → f e ≡ Some x → Q x

pub first_of-tells : {E : Type 0} {X : Type 0} (f : E → Option X) (Q : X → Type 0) (es : List E) → All (Tells f Q) es → (x : X) → first_of f es ≡ Some x → Q x
first_of-tells f Q [] all x found = cc
first_of-tells f Q (e ∷ es) all x found = go (f e) refl found (first_of-tells f Q es (All-tail (Tells f Q) e es all) x)
  where
    go : (this : Option _) → f e ≡ this → option_or this (first_of f es) ≡ Some x → (first_of f es ≡ Some x → Q x) → Q x
    go None is found rest = rest found
    go (Some y) is found rest = All-head (Tells f Q) e es all x (is ∙ found)

pub last_of-says : {E : Type 0} {X : Type 0} (f : E → Option X) (Q : X → Type 0) (es : List E) → All (Tells f Q) es → (x : X) → last_of f es ≡ Some x → Q x
last_of-says f Q [] all x found = cc
last_of-says f Q (e ∷ es) all x found = go (last_of f es) refl found (last_of-says f Q es (All-tail (Tells f Q) e es all) x)
  where
    go : (later : Option _) → last_of f es ≡ later → option_or later (f e) ≡ Some x → (last_of f es ≡ Some x → Q x) → Q x
    go None is found rest = All-head (Tells f Q) e es all x found
    go (Some y) is found rest = rest (is ∙ found)

pub All-filter_map : {E : Type 0} {X : Type 0} (f : E → Option X) (Q : X → Type 0) (es : List E) → All (Tells f Q) es → All Q (filter_map f es)
All-filter_map f Q [] all = All-nil Q
All-filter_map f Q (e ∷ es) all = go (f e) refl (All-filter_map f Q es (All-tail (Tells f Q) e es all))
  where
    go : (this : Option _) → f e ≡ this → All Q (filter_map f es) → All Q (cons_option this (filter_map f es))
    go None is rest = rest
    go (Some x) is rest = All-cons Q x (filter_map f es) (All-head (Tells f Q) e es all x is) rest

pub find-passes : {X : Type 0} (test : X → Bool) (Q : X → Type 0) (xs : List X) → All Q xs → (x : X) → find test xs ≡ Some x → Q x
find-passes test Q [] all x found = cc
find-passes test Q (y ∷ xs) all x found = go (test y) found (find-passes test Q xs (All-tail Q y xs all) x)
  where
    go : (here : Bool) → cond here (Some y) (find test xs) ≡ Some x → (find test xs ≡ Some x → Q x) → Q x
    go true found rest = let same : y ≡ x = cc in subst Q same (All-head Q y xs all)
    go false found rest = rest found

-- the same of what a search finds, if it finds any
pub IfSome-find : {X : Type 0} (test : X → Bool) (Q : X → Type 0) (xs : List X) → All Q xs → IfSome (find test xs) Q
IfSome-find test Q xs all = go (find test xs) (find-passes test Q xs all)
  where
    go : (o : Option _) → ((x : _) → o ≡ Some x → Q x) → IfSome o Q
    go None found = tt
    go (Some x) found = found x refl

pub All-option_to_list : {X : Type 0} (Q : X → Type 0) (o : Option X) → IfSome o Q → All Q (option_to_list o)
All-option_to_list Q None is = All-nil Q
All-option_to_list Q (Some x) is = All-cons Q x [] is (All-nil Q)

pub unwrap_or-passes : {X : Type 0} {Y : Type 0} (f : X → Y) (Q : Y → Type 0) (o : Option X) (other : Y) → Q other → IfSome o (λ x. Q (f x)) → Q (unwrap_or (option_map f o) other)
unwrap_or-passes f Q None other is some = is
unwrap_or-passes f Q (Some x) other is some = some

pub All-reverse : {X : Type 0} (Q : X → Type 0) (xs : List X) → All Q xs → All Q (reverse xs)
All-reverse Q [] all = All-nil Q
All-reverse Q (x ∷ xs) all =
    subst (All Q) (sym (reverse-append (x ∷ []) xs))
    (All-append Q (reverse xs) (x ∷ []) (All-reverse Q xs (All-tail Q x xs all)) (All-cons Q x [] (All-head Q x xs all) (All-nil Q)))

pub All-keep_last : (Q : ℕ → Type 0) (ps : List ℕ) → All Q ps → All Q (keep_last ps)
All-keep_last Q [] all = All-nil Q
All-keep_last Q (p ∷ ps) all = go (list_any (nat_eq p) ps) (All-keep_last Q ps (All-tail Q p ps all))
  where
    go : (again : Bool) → All Q (keep_last ps) → All Q (cond again (keep_last ps) (p ∷ keep_last ps))
    go true rest = rest
    go false rest = All-cons Q p (keep_last ps) (All-head Q p ps all) rest

-- what entries say that fit, of which each command that fits says something with Q
pub said-fits : {X : Type 0} (f : Cmd → Option X) (Q : X → Type 0) → ((c : Cmd) (x : X) → IsCommand c → f c ≡ Some x → Q x)
    → (es : List EntryValue) → All Fits es → All (Tells (said f) Q) es
said-fits f Q fits es all = λ k d within x is.
    let parts = said-some f (get_or es k d) x is in
    fits (get_or es k d).stated.cmd x (all k d within).stated.cmd parts.1
