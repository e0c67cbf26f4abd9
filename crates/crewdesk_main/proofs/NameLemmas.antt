-- Words that name callers, one after another.
use Rattle.std.proofs.Common.{◌≡◌, ◌∙◌, ℕ, suc, arith, ◌+◌, ◌<◌, ◌≤◌, true, false, if◌then◌else◌, List, [], ◌∷◌, length, get_or, drop, refl, sym, ap, subst}
use Rattle.std.specs.Prelude.{String, string_bytes}
use Rattle.std.specs.Global.{Global}
use Rattle.std.proofs.Math.Seq.{drop-cons}
use Rattle.std.proofs.lemmas.List.{drop_all}
use Rattle.crewdesk_main.specs.Words.{are_names, is_before}

names-cons : (name : String Global) (others : List (String Global)) → are_names (name ∷ others) ≡ (if is_before (string_bytes name) others then are_names others else false)
unfolding are_names
names-cons name others = refl

names-none : are_names [] ≡ true
unfolding are_names
names-none = refl

-- those from one on are names where it is, and those behind it are
pub names-at : (words : List (String Global)) (at : ℕ) (name : String Global) → at < length words → name ≡ get_or words at name
    → are_names (drop at words) ≡ (if is_before (string_bytes name) (drop (at + 1) words) then are_names (drop (at + 1) words) else false)
names-at words at name within is =
    let same : suc at ≡ at + 1 = omega arith in
    ap are_names (drop-cons words at name within ∙ ap (λ k. get_or words at name ∷ drop k words) same ∙ ap (λ n. n ∷ drop (at + 1) words) (sym is)) ∙ names-cons name (drop (at + 1) words)

-- with none left all are
pub names-all : (words : List (String Global)) (at : ℕ) → length words ≤ at → are_names (drop at words) ≡ true
names-all words at far = ap are_names (drop_all at words far) ∙ names-none
