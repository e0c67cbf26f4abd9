-- A text that is cut at its commas from the front on: the parts so far, and what stands behind the last comma.
use Rattle.std.proofs.Common.{◌≡◌, ◌∙◌, ℕ, ◌+◌, ◌-◌, ◌<◌, ◌≤◌, ◌==◌, false, List, [], ◌∷◌, ◌++◌, length, get_or, take, drop, refl, sym, ap, arith, append_assoc, length-append}
use Rattle.std.specs.List.{All}
use Rattle.std.proofs.lemmas.List.{drop-drop, drop_more, get_or-take, get_or-drop, get_or_default, take_all, take-append-drop, length-take}
use Rattle.std.proofs.lemmas.List.Splits.{slice_split_at, slice_split_none}
use Rattle.std.proofs.lemmas.Bool.{false_from_ne_true, eqb-true}
use Rattle.byte_marks.specs.Marks.{IsNowhere}
use Rattle.desk_base.specs.Parts.{parts_by}

-- no byte from one index up to another is a comma
abbrev pub AreUncut : List ℕ → ℕ → ℕ → Type 0
AreUncut text start at = All (λ b. (b == 44) ≡ false) (take (at - start) (drop start text))

-- what stands behind the last comma begins at the one that was found
behind_last : (text : List ℕ) (start at : ℕ) → start ≤ at → at < length text → get_or text at 0 ≡ 44
    → drop start text ≡ take (at - start) (drop start text) ++ 44 ∷ drop (at + 1) text
behind_last text start at from within here =
    let there : start + (at - start) ≡ at = omega arith in
    sym (take-append-drop (at - start) (drop start text))
    ∙ ap (λ rest. take (at - start) (drop start text) ++ rest)
    (drop-drop (at - start) start text ∙ ap (λ n. drop n text) there ∙ drop_more text at 0 within ∙ ap (λ b. b ∷ drop (at + 1) text) here)

-- a comma ends one more part
pub parts-comma : (front : List (List ℕ)) (text : List ℕ) (start at : ℕ) (parts : List (List ℕ)) → start ≤ at → at < length text → get_or text at 0 ≡ 44
    → AreUncut text start at → front ++ parts_by 44 (drop start text) ≡ parts
    → (front ++ take (at - start) (drop start text) ∷ []) ++ parts_by 44 (drop (at + 1) text) ≡ parts
parts-comma front text start at parts from within here uncut so_far =
    append_assoc front (take (at - start) (drop start text) ∷ []) (parts_by 44 (drop (at + 1) text))
    ∙ ap (λ ps. front ++ ps) (sym (ap (parts_by 44) (behind_last text start at from within here)
    ∙ slice_split_at (λ b. b == 44) (take (at - start) (drop start text)) 44 (drop (at + 1) text) uncut refl))
    ∙ so_far

-- a text has none where it stands nowhere
pub uncut-between : (text : List ℕ) (start at : ℕ) → at ≤ length text → IsNowhere text 44 start at → AreUncut text start at
uncut-between text start at within none k d low =
    let behind : k < at - start = omega (arith, low, length-take (at - start) (drop start text)) in
    let inside : start + k < length text = omega (arith, behind, within) in
    let is : get_or (take (at - start) (drop start text)) k d ≡ get_or text (start + k) 0 =
    get_or-take (at - start) (drop start text) k d behind ∙ get_or-drop start text k d ∙ get_or_default text (start + k) d 0 inside in
    ap (λ b. b == 44) is ∙ false_from_ne_true (get_or text (start + k) 0 == 44) (λ e. none (start + k) (omega arith) (omega (arith, behind)) (eqb-true _ 44 e))

-- what stands behind the last comma is the last part
pub parts-last : (front : List (List ℕ)) (last : List ℕ) (parts : List (List ℕ)) → All (λ b. (b == 44) ≡ false) last → length front < 12
    → front ++ parts_by 44 last ≡ parts → front ++ last ∷ [] ≡ take 12 parts
parts-last front last parts uncut few so_far =
    let all : front ++ last ∷ [] ≡ parts = ap (λ ps. front ++ ps) (sym (slice_split_none (λ b. b == 44) last uncut)) ∙ so_far in
    all ∙ sym (take_all 12 parts (omega (arith, few, ap length (sym all), length-append front (last ∷ []))))
