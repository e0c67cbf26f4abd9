-- What is told of a line, with more behind it; and the lines among what it gave.
use Rattle.std.proofs.Common.{◌≡◌, ℕ, ◌+◌, true, cond, List, [], ◌∷◌, ◌++◌, map, None, Some, refl, ap, ◌∙◌, append-nil, append_assoc, zero-add}
use Rattle.std.specs.declared.option.Option.{Option}
use Rattle.std.specs.Prelude.{count_by}
use Rattle.std.proofs.lemmas.List.Sums.{sum_by-append}
use Rattle.caller_lines.specs.Given.{Given}
use Rattle.caller_lines.specs.LineCalls.{LineCall, Asked, PutText, given_in}
use Rattle.caller_lines.specs.Told.{with_last}
use Rattle.serve_desk.specs.Told.{with_all}
use Rattle.serve_desk.specs.Follows.{is_line}
use Rattle.serve_desk.specs.Session.{lines_in, asked_then_put}

-- with none, it is as it was
pub with_all-none : {A : Type 0} (xs : Option (List A)) → with_all xs [] ≡ xs
with_all-none None = refl
with_all-none (Some xs) = ap (λ ys. Some ys) (append-nil xs)

-- one more is one at the end
pub with_all-one : {A : Type 0} (xs : Option (List A)) (x : A) → with_all xs (x ∷ []) ≡ with_last xs x
with_all-one None x = refl
with_all-one (Some xs) x = refl

-- some, and then more
pub with_all-more : {A : Type 0} (xs : Option (List A)) (ys zs : List A) → with_all (with_all xs ys) zs ≡ with_all xs (ys ++ zs)
with_all-more None ys zs = refl
with_all-more (Some xs) ys zs = ap (λ all. Some all) (append_assoc xs ys zs)

-- one at the end, and then some
pub with_last-then : {A : Type 0} (xs : Option (List A)) (y : A) (ys : List A) → with_all (with_last xs y) ys ≡ with_all xs (y ∷ ys)
with_last-then None y ys = refl
with_last-then (Some xs) y ys = ap (λ all. Some all) (append_assoc xs (y ∷ []) ys)

-- what was given in some calls and in more of them
given_in-append : (calls more : List LineCall) → given_in (calls ++ more) ≡ given_in calls ++ given_in more
given_in-append [] more = refl
given_in-append (Asked gave ∷ calls) more = ap (λ given. gave ∷ given) (given_in-append calls more)
given_in-append (PutText text ∷ calls) more = given_in-append calls more

given_in-puts : (texts : List (List ℕ)) → given_in (map PutText texts) ≡ []
given_in-puts [] = refl
given_in-puts (text ∷ texts) = given_in-puts texts

given_in-more : (calls : List LineCall) (gave : Given) (texts : List (List ℕ)) → given_in (calls ++ asked_then_put gave texts) ≡ given_in calls ++ gave ∷ []
given_in-more calls gave texts = given_in-append calls (asked_then_put gave texts) ∙ ap (λ given. given_in calls ++ gave ∷ given) (given_in-puts texts)

-- one line more
count-more : (given : List Given) (gave : Given) → count_by is_line (given ++ gave ∷ []) ≡ count_by is_line given + cond (is_line gave) 1 0
count-more given gave = sum_by-append (λ x. cond (is_line x) 1 0) given (gave ∷ []) ∙ ap (λ n. count_by is_line given + n) (zero-add (cond (is_line gave) 1 0))

pub lines_in-line : (calls : List LineCall) (gave : Given) (texts : List (List ℕ)) → is_line gave ≡ true → lines_in (calls ++ asked_then_put gave texts) ≡ lines_in calls + 1
lines_in-line calls gave texts line =
    ap (count_by is_line) (given_in-more calls gave texts) ∙ count-more (given_in calls) gave ∙ ap (λ b. lines_in calls + cond b 1 0) line
