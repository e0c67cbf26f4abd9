-- A bar that a row gives has its values in their ranges, and so has the first of rows of which each gives such a one.
use Rattle.std.proofs.Common.{◌≡◌, Bool, true, false, cond, Option, None, Some, IfSome, List, ◌∷◌, refl}
use Rattle.std.specs.Option.{option_map}
use Rattle.denial_rules.specs.declared.bar.Bar.{Bar}
use Rattle.denial_rules.specs.Bar.{FitsBar}
use Rattle.denial_rules.specs.Table.{first_some}

pub row-fits : (row : Option Bar) (rows : List (Option Bar)) → IfSome row FitsBar → IfSome (first_some rows) FitsBar → IfSome (first_some (row ∷ rows)) FitsBar
row-fits None rows row rest = rest
row-fits (Some b) rows row rest = row

-- a bar that is kept where a test holds, and one where it doesn't
pub where-fits : (test : Bool) (b : Bar) → FitsBar b → IfSome (cond test (Some b) None) FitsBar
where-fits true b is = is
where-fits false b is = tt

pub unless-fits : (test : Bool) (b : Bar) → (test ≡ false → FitsBar b) → IfSome (cond test None (Some b)) FitsBar
unless-fits true b is = tt
unless-fits false b is = is refl

-- a bar that keeps what there is
pub option-fits : {X : Type 0} (f : X → Bar) (o : Option X) → IfSome o (λ x. FitsBar (f x)) → IfSome (option_map f o) FitsBar
option-fits f None is = tt
option-fits f (Some x) is = is
