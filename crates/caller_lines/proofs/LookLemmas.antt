-- A look's record.
use Rattle.std.proofs.Common.{◌≡◌, ℕ, ◌<◌, ◌≤◌, List, [], ◌∷◌, length, get_or, map, codes, decimal, refl, arith, Bor}
use Rattle.desk_model.specs.declared.limits.TheConstants.{POSITION_LIMIT}
use Rattle.desk_base.specs.Code.{IsCode}
use Rattle.caller_lines.specs.Looks.{IsLookRecord}

-- three fields are a look's, where each is
pub look-record : (fields : List (Bor (List ℕ))) (d : Bor (List ℕ)) (board : List ℕ) (position : ℕ) → 3 ≤ length fields → length fields < 4
    → (get_or fields 0 d).now ≡ codes "look" → IsCode (get_or fields 1 d).now × (board ≡ (get_or fields 1 d).now)
    → (1 ≤ position) × (position ≤ POSITION_LIMIT) × ((get_or fields 2 d).now ≡ decimal position) → IsLookRecord (map (λ field. field.now) fields) board position
look-record [] d board position least below word code at = absurd (omega (arith, least))
look-record (_ ∷ []) d board position least below word code at = absurd (omega (arith, least))
look-record (_ ∷ _ ∷ []) d board position least below word code at = absurd (omega (arith, least))
look-record (x ∷ y ∷ z ∷ []) d board position least below word code at =
    record { code = rw code.1 code.0; some = at.0; most = at.1; fields_are = rw (word, code.1, at.2) refl }
look-record (_ ∷ _ ∷ _ ∷ _ ∷ rest) d board position least below word code at = absurd (omega (arith, below))
