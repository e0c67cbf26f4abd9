-- Chains, a board at a time.
use Rattle.std.proofs.Common.{◌≡◌, ℕ, suc, ◌+◌, ◌<◌, Bool, None, Some, List, [], ◌∷◌, ◌++◌, length, drop, get_or, refl, sym, ap, ◌∙◌, length-append}
use Rattle.std.specs.Option.{option_or}
use Rattle.std.specs.List.{find}
use Rattle.std.proofs.lemmas.List.{at_drop_more}
use Rattle.std.proofs.lemmas.List.Folds.{find-append}
use Rattle.desk_model.specs.declared.link.Link.{Link}
use Rattle.desk_model.specs.histories.History.{History}
use Rattle.desk_model.specs.boards.Boards.{order, links, chain}

length-links : (b : List ℕ) (position : ℕ) (ps : List ℕ) → length (links b position ps) ≡ length ps
length-links b position [] = refl
length-links b position (p ∷ ps) = ap suc (length-links b (position + 1) ps)

-- the links from a board on are those of the board and those behind it
chain-next : (h : History) (codes : List (List ℕ)) (i : ℕ) (b : List ℕ) → i < length codes → b ≡ get_or codes i b
    → chain h (drop i codes) ≡ links b 1 (order h b) ++ chain h (drop (i + 1) codes)
chain-next h codes i b within is = at_drop_more (chain h) codes i b within ∙ ap (λ a. chain h (a ∷ drop (i + 1) codes)) (sym is)

pub length-chain-next : (h : History) (codes : List (List ℕ)) (i : ℕ) (b : List ℕ) → i < length codes → b ≡ get_or codes i b
    → length (chain h (drop i codes)) ≡ length (order h b) + length (chain h (drop (i + 1) codes))
length-chain-next h codes i b within is =
    ap length (chain-next h codes i b within is)
    ∙ length-append (links b 1 (order h b)) (chain h (drop (i + 1) codes))
    ∙ ap (λ n. n + length (chain h (drop (i + 1) codes))) (length-links b 1 (order h b))

find-chain-next : (p : Link → Bool) (h : History) (codes : List (List ℕ)) (i : ℕ) (b : List ℕ) → i < length codes → b ≡ get_or codes i b
    → find p (chain h (drop i codes)) ≡ option_or (find p (links b 1 (order h b))) (find p (chain h (drop (i + 1) codes)))
find-chain-next p h codes i b within is =
    ap (find p) (chain-next h codes i b within is) ∙ find-append p (links b 1 (order h b)) (chain h (drop (i + 1) codes))

pub find-chain-here : (p : Link → Bool) (h : History) (codes : List (List ℕ)) (i : ℕ) (b : List ℕ) (link : Link) → i < length codes
    → b ≡ get_or codes i b → find p (links b 1 (order h b)) ≡ Some link → find p (chain h (drop i codes)) ≡ Some link
find-chain-here p h codes i b link within is found =
    find-chain-next p h codes i b within is ∙ ap (λ first. option_or first (find p (chain h (drop (i + 1) codes)))) found

pub find-chain-past : (p : Link → Bool) (h : History) (codes : List (List ℕ)) (i : ℕ) (b : List ℕ) → i < length codes
    → b ≡ get_or codes i b → find p (links b 1 (order h b)) ≡ None → find p (chain h (drop i codes)) ≡ find p (chain h (drop (i + 1) codes))
find-chain-past p h codes i b within is missed =
    find-chain-next p h codes i b within is ∙ ap (λ first. option_or first (find p (chain h (drop (i + 1) codes)))) missed
