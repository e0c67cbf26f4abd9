-- Crafts.
use Rattle.std.specs.Prelude.{◌≡◌, ℕ, Bool, true, false, List, codes}
use Rattle.std.specs.Cmp.{IsEquivalence}
use Rattle.std.proofs.Common.{refl, ap}
use Rattle.qualifications.specs.declared.craft.Craft.{Craft}
use Rattle.qualifications.specs.declared.craft.Craft.TheVariants as craft

-- the letter of a craft
abbrev pub craft_text : Craft → List ℕ
craft_text craft.E = codes "E"
craft_text craft.C = codes "C"
craft_text craft.B = codes "B"

-- two crafts are one
abbrev pub craft_eq : Craft → Craft → Bool
craft_eq craft.E craft.E = true
craft_eq craft.C craft.C = true
craft_eq craft.B craft.B = true
craft_eq one other = false

-- where they are, they are equal
pub craft_eq-true : (one other : Craft) → craft_eq one other ≡ true → one ≡ other
craft_eq-true craft.E craft.E is = refl
craft_eq-true craft.C craft.C is = refl
craft_eq-true craft.B craft.B is = refl
craft_eq-true one other is = cc

craft_eq-refl : (one : Craft) → craft_eq one one ≡ true
craft_eq-refl craft.E = refl
craft_eq-refl craft.C = refl
craft_eq-refl craft.B = refl

craft_eq-symm : (one other : Craft) → craft_eq one other ≡ craft_eq other one
craft_eq-symm craft.E craft.E = refl
craft_eq-symm craft.E craft.C = refl
craft_eq-symm craft.E craft.B = refl
craft_eq-symm craft.C craft.E = refl
craft_eq-symm craft.C craft.C = refl
craft_eq-symm craft.C craft.B = refl
craft_eq-symm craft.B craft.E = refl
craft_eq-symm craft.B craft.C = refl
craft_eq-symm craft.B craft.B = refl

pub craft_eq-equivalence : IsEquivalence craft_eq
craft_eq-equivalence = record {
  refl = craft_eq-refl;
  symm = craft_eq-symm;
  congr = λ x y z is. ap (λ c. craft_eq c z) (craft_eq-true x y is);
}
