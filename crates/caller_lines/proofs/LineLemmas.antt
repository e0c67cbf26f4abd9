-- The lines that are left, and what is given of them.
use Rattle.std.proofs.Common.{◌≡◌, ℕ, suc, ◌<◌, ◌≤◌, List, ◌∷◌, length, drop, map, slice_index_or, nat_lt, true, false, sym, ap, subst, ◌∙◌, refl, arith}
use Rattle.std.proofs.lemmas.List.{length-map}
use Rattle.std.proofs.Math.Seq.{drop-cons}
use Rattle.std.proofs.Math.ListN.{get_or-map}
use Rattle.caller_lines.specs.Given.{GaveLine, GaveTooLong}
use Rattle.caller_lines.specs.MemoryLine.{first_given}

-- where there is a line at a position, it is the first of those that are left from there
pub drop-map : {L : Type 0} (view : L → List ℕ) (lines : List L) (at : ℕ) (line : L) → at < length lines
    → line ≡ slice_index_or lines at line → drop at (map view lines) ≡ view line ∷ drop (suc at) (map view lines)
drop-map view lines at line lt is =
    subst (λ x. drop at (map view lines) ≡ x ∷ drop (suc at) (map view lines)) (get_or-map view lines at line ∙ ap view (sym is))
    (drop-cons (map view lines) at (view line) (omega (arith, lt, length-map lines view)))

-- a first line of more than 512 bytes is given as too long
pub first_given-long : (lines rest : List (List ℕ)) (line : List ℕ) → lines ≡ line ∷ rest → 512 < length line
    → GaveTooLong ≡ first_given lines
first_given-long lines rest line is long =
    let more : nat_lt 512 (length line) ≡ true = grind (arith, long) in rw is (rw more refl)

-- and one that isn't, with its bytes
pub first_given-line : (lines rest : List (List ℕ)) (line : List ℕ) → lines ≡ line ∷ rest → length line ≤ 512
    → GaveLine line ≡ first_given lines
first_given-line lines rest line is short =
    let less : nat_lt 512 (length line) ≡ false = grind (arith, short) in rw is (rw less refl)
