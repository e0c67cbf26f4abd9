-- Where a mark stands in a text.
use Rattle.std.specs.Prelude.{◌≡◌, ◌≢◌, ℕ, ◌+◌, ◌-◌, ◌<◌, ◌≤◌, ◌==◌, List, length, map, slice_index_or}
use Rattle.std.specs.Int.{bit_at}
use Rattle.std.specs.Simd.Lanes.{mask_l}

-- the number whose bit k says whether the byte k is the mark
abbrev pub mask_of : ℕ → List ℕ → ℕ
mask_of mark bytes = mask_l (map (λ b. b == mark) bytes)

-- a text and a mark, and from which index on it is looked for
pub record MarksValue : Type 0 where
  pub text : List ℕ
  pub mark : ℕ
  pub from : ℕ

abbrev pub marks_from : List ℕ → ℕ → ℕ → MarksValue
marks_from text mark from = record { text = text; mark = mark; from = from }

-- it stands at this index
abbrev pub StandsAt : List ℕ → ℕ → ℕ → Type 0
StandsAt text mark i = (i < length text) × (slice_index_or text i 0 ≡ mark)

-- it stands nowhere from one index on, up to another
abbrev pub IsNowhere : List ℕ → ℕ → ℕ → ℕ → Type 0
IsNowhere text mark from to = (i : ℕ) → from ≤ i → i < to → slice_index_or text i 0 ≢ mark

-- and first of all from one index on at this one
pub record IsFirstFrom (text : List ℕ) (mark from at : ℕ) : Type 0 where
  pub stands : StandsAt text mark at
  pub behind : from ≤ at
  pub first : IsNowhere text mark from at

-- the bits of a mask are where it stands, from one index on, among the sixteen bytes behind another
pub record AreMarked (text : List ℕ) (mark from begin mask : ℕ) : Type 0 where
  pub within : from ≤ begin + 16
  pub set : (k : ℕ) → bit_at mask k ≡ 1 → (k < 16) × (from ≤ begin + k) × StandsAt text mark (begin + k)
  pub all : (i : ℕ) → from ≤ i → i < begin + 16 → StandsAt text mark i → (begin ≤ i) × (bit_at mask (i - begin) ≡ 1)
