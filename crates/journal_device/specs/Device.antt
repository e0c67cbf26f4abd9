-- What is written to a device, what of it is kept, and its faults.
use Rattle.std.specs.Prelude.{◌≡◌, ℕ, ◌≤◌, Bool, true, false, List, length, take, ⊤, None, Some}
use Rattle.std.specs.declared.option.Option.{Option}
use Rattle.std.specs.Io.KnownBytes.{append_known}
use mathlib.Core.List.{IsPrefix}
use Rattle.desk_io.specs.Faults.{one_more}

-- the first bytes begin the others: where they are told, the others are too, and go on from them
abbrev pub Begins : Option (List ℕ) → Option (List ℕ) → Type 0
Begins None whole = ⊤
Begins (Some front) None = ⊥
Begins (Some front) (Some whole) = IsPrefix front whole

-- the bytes are these, where they are told
abbrev pub Tells : Option (List ℕ) → List ℕ → Type 0
Tells None bytes = ⊤
Tells (Some known) bytes = known ≡ bytes

-- some of the bytes were added, from their front: none, all, or any number between
pub record AddsSome (old new : Option (List ℕ)) (bytes : List ℕ) : Type 0 where
  pub count : ℕ
  pub added : new ≡ append_known old (take count bytes)

-- the count of faults after a call that was done, or was not
abbrev pub faults_after : Bool → ℕ → ℕ
faults_after true faults = faults
faults_after false faults = one_more faults

-- of the bytes, where they are told, there are so many, and just these are left; where they are not told, no others are
abbrev pub Leaves : Option (List ℕ) → Option (List ℕ) → ℕ → Type 0
Leaves None left len = left ≡ None
Leaves (Some bytes) left len = (len ≤ length bytes) × (left ≡ Some (take len bytes))
