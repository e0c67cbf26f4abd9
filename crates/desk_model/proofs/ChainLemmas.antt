-- Chains: a board more, the boards at the front, and the text and its parts.
use Rattle.std.proofs.Common.{◌≡◌, ◌≢◌, ℕ, suc, ◌+◌, ◌*◌, ◌<◌, ◌≤◌, true, false, ◌==◌, List, [], ◌∷◌, ◌++◌, length, get_or, take, refl, sym, ap, ◌∙◌, arith, append_assoc, length-append, length-take}
use Rattle.std.specs.List.{All, Contains}
use Rattle.std.proofs.Math.Seq.{get_or-append_seam}
use Rattle.std.proofs.lemmas.Bool.Decides.{nat_tests}
use Rattle.std.proofs.lemmas.List.{get_or_append_left, get_or_default}
use Rattle.std.proofs.lemmas.List.Elements.{All-push, All-take}
use Rattle.std.proofs.lemmas.List.Quantifiers.{all_pairs_push}
use Rattle.std.proofs.lemmas.List.Sums.{AllPass-from_list_all}
use Rattle.desk_base.specs.Code.{IsCode, is_code_byte}
use Rattle.desk_base.specs.Parts.{parts_by}
use Rattle.desk_base.proofs.PartsLemmas.{AreUnmarked, parts_by-join}
use Rattle.desk_model.specs.statements.Chain.{IsChain, chain_text}

-- ---- a board more, and the boards at the front

pub IsChain-push : (boards : List (List ℕ)) (board : List ℕ) → IsChain boards → length boards < 4 → IsCode board → ¬ Contains boards board → IsChain (boards ++ board ∷ [])
IsChain-push boards board chain room code new = record {
  some = omega (arith, length-append boards (board ∷ []));
  most = omega (arith, length-append boards (board ∷ []));
  codes = All-push IsCode boards board chain.codes code;
  distinct = all_pairs_push (λ a b. a ≢ b) boards board chain.distinct (λ k d within e. new (k, within, get_or_default boards k board d within ∙ e));
}

-- four boards are no chain with one more
pub IsChain-full : (boards : List (List ℕ)) (board : List ℕ) → length boards ≡ 4 → ¬ IsChain (boards ++ board ∷ [])
IsChain-full boards board full chain = omega (arith, length-append boards (board ∷ []), chain.most)

-- nor are those that have this one
pub IsChain-twice : (boards : List (List ℕ)) (board : List ℕ) → Contains boards board → ¬ IsChain (boards ++ board ∷ [])
IsChain-twice boards board (k, within, is) chain =
    chain.distinct k (length boards) board within (omega (arith, length-append boards (board ∷ [])))
    (get_or_append_left boards (board ∷ []) board k within ∙ is ∙ sym (get_or-append_seam boards board [] board))

-- the first boards of a chain are a chain
pub IsChain-front : (boards more : List (List ℕ)) → 1 ≤ length boards → IsChain (boards ++ more) → IsChain boards
IsChain-front boards more some chain = record {
  some = some;
  most = omega (arith, length-append boards more, chain.most);
  codes = λ k d within. rw (get_or_append_left boards more d k within) at (chain.codes k d (omega (arith, length-append boards more)));
  distinct = λ i j d before within e. chain.distinct i j d before (omega (arith, length-append boards more))
      (get_or_append_left boards more d i (omega arith) ∙ e ∙ sym (get_or_append_left boards more d j within));
}

-- the next board of a chain, and the chain up to it
pub next_code : (boards : List (List ℕ)) (board : List ℕ) (more : List (List ℕ)) → IsChain (boards ++ board ∷ more) → IsCode board
next_code boards board more chain =
    rw (get_or-append_seam boards board more board) at (chain.codes (length boards) board (omega (arith, length-append boards (board ∷ more))))

pub next_chain : (boards : List (List ℕ)) (board : List ℕ) (more : List (List ℕ)) → IsChain (boards ++ board ∷ more) → IsChain (boards ++ board ∷ [])
next_chain boards board more chain =
    IsChain-front (boards ++ board ∷ []) more (omega (arith, length-append boards (board ∷ []))) (rw (← append_assoc boards (board ∷ []) more) at chain)

-- ---- the text

-- a code has no mark
code-unmarked : (code : List ℕ) → IsCode code → All (λ b. (b == 43) ≡ false) code
code-unmarked code is k d within = not_mark (get_or code k d) (AllPass-from_list_all is_code_byte code is.bytes k d within)
  where
    not_mark : (b : ℕ) → is_code_byte b ≡ true → (b == 43) ≡ false
    not_mark b h = grind (arith, nat_tests, h)

AreUnmarked-codes : (boards : List (List ℕ)) → All IsCode boards → AreUnmarked 43 boards
AreUnmarked-codes [] codes = tt
AreUnmarked-codes (board ∷ boards) codes =
    (code-unmarked board (codes 0 board (omega arith)), AreUnmarked-codes boards (λ k d within. codes (suc k) d (omega arith)))

-- the parts of a chain's text are its boards
pub parts_by-chain_text : (boards : List (List ℕ)) → IsChain boards → parts_by 43 (chain_text boards) ≡ boards
parts_by-chain_text [] chain = absurd (omega (arith, chain.some))
parts_by-chain_text (board ∷ boards) chain = parts_by-join 43 board boards (AreUnmarked-codes (board ∷ boards) chain.codes)

-- the text with one board more behind others
chain_text-push : (first : List ℕ) (boards : List (List ℕ)) (board : List ℕ) → chain_text (first ∷ boards ++ board ∷ []) ≡ (chain_text (first ∷ boards) ++ 43 ∷ []) ++ board
chain_text-push first [] board = sym (append_assoc first (43 ∷ []) board)
chain_text-push first (next ∷ boards) board =
    ap (λ text. first ++ 43 ∷ text) (chain_text-push next boards board) ∙ simp append_assoc

-- how long the text of codes is
chain_text-some : (first : List ℕ) (boards : List (List ℕ)) → All IsCode (first ∷ boards) → 0 < length (chain_text (first ∷ boards))
chain_text-some first [] codes = omega (arith, (codes 0 first (omega arith)).some)
chain_text-some first (next ∷ boards) codes =
    omega (arith, (codes 0 first (omega arith)).some, length-append first (43 ∷ chain_text (next ∷ boards)))

chain_text-most : (first : List ℕ) (boards : List (List ℕ)) → All IsCode (first ∷ boards) → length (chain_text (first ∷ boards)) ≤ 6 + 7 * length boards
chain_text-most first [] codes = omega (arith, (codes 0 first (omega arith)).most)
chain_text-most first (next ∷ boards) codes =
    omega (
      arith,
      (codes 0 first (omega arith)).most,
      length-append first (43 ∷ chain_text (next ∷ boards)),
      chain_text-most next boards (λ k d within. codes (suc k) d (omega arith)),
    )

-- there is room for each of a chain's boards
pub chain_text-room : (boards : List (List ℕ)) (i : ℕ) → IsChain boards → i < length boards → length (chain_text (take i boards)) + 7 ≤ 27
chain_text-room boards i chain within =
    at_most (take i boards) (All-take IsCode i boards chain.codes) (omega (arith, length-take i boards, chain.most))
  where
    at_most : (front : List (List ℕ)) → All IsCode front → length front ≤ 3 → length (chain_text front) + 7 ≤ 27
    at_most [] codes short = omega arith
    at_most (first ∷ front) codes short = omega (arith, chain_text-most first front codes)

-- the text with one board more: the first one
pub chain_text-first : (boards : List (List ℕ)) (board : List ℕ) → All IsCode boards → length (chain_text boards) ≡ 0 → chain_text boards ++ board ≡ chain_text (boards ++ board ∷ [])
chain_text-first [] board codes none = refl
chain_text-first (first ∷ boards) board codes none = absurd (omega (arith, chain_text-some first boards codes))

-- and a later one
pub chain_text-later : (boards : List (List ℕ)) (board : List ℕ) → (length (chain_text boards) ≡ 0 → ⊥) → (chain_text boards ++ 43 ∷ []) ++ board ≡ chain_text (boards ++ board ∷ [])
chain_text-later [] board some = absurd (some refl)
chain_text-later (first ∷ boards) board some = sym (chain_text-push first boards board)

-- the boards of a text that has these parts
pub boards_are : (boards : List (List ℕ)) (text : List ℕ) (parts : List (List ℕ)) → IsChain boards → text ≡ chain_text boards → parts_by 43 text ≡ parts → boards ≡ parts
boards_are boards text parts chain e is = sym (parts_by-chain_text boards chain) ∙ ap (parts_by 43) (sym e) ∙ is
