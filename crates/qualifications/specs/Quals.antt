-- Sets of qualifications, each a number from 0 to 63 and kept as a bit.
use Rattle.std.specs.Prelude.{◌≡◌, ℕ, ◌≤◌, ◌<◌, IsTrue, zero, suc, Bool, false, not, ◌&&◌, ◌==◌, Option, None, Some, if◌then◌else◌, List, [], ◌∷◌, ◌++◌, map, length, codes, decimal}
use Rattle.std.specs.Option.{option_or}
use Rattle.std.specs.List.{join_with_byte}
use Rattle.std.specs.Int.{bit_at}

-- the set has this number
abbrev pub has : ℕ → ℕ → Bool
has quals number = bit_at quals number == 1

-- the lowest number below n that passes
unfoldable pub lowest : (ℕ → Bool) → ℕ → Option ℕ
lowest test zero = None
lowest test (suc n) = option_or (lowest test n) (if test n then Some n else None)

-- the lowest number that is asked and not had
abbrev pub lowest_missing : ℕ → ℕ → Option ℕ
lowest_missing had asked = lowest (λ number. has asked number && not (has had number)) 64

-- each number that is asked is had
abbrev pub HasAll : ℕ → ℕ → Type 0
HasAll had asked = (number : ℕ) → number ≤ 63 → IsTrue (has asked number) → IsTrue (has had number)

-- no number from this one on and below that one is in the set
abbrev pub HasNone : ℕ → ℕ → ℕ → Type 0
HasNone quals from to = (number : ℕ) → from ≤ number → number < to → has quals number ≡ false

-- the numbers below n that the set has, rising
unfoldable pub numbers_below : ℕ → ℕ → List ℕ
numbers_below quals zero = []
numbers_below quals (suc n) = numbers_below quals n ++ (if has quals n then n ∷ [] else [])

-- numbers joined by `+`
abbrev pub joined : List ℕ → List ℕ
joined numbers = join_with_byte 43 (map decimal numbers)

-- the text of a set: `-` where it has no number, else its numbers
unfoldable pub quals_text : ℕ → List ℕ
quals_text quals = if length (numbers_below quals 64) == 0 then codes "-" else joined (numbers_below quals 64)

-- the text with one number more at its end
abbrev pub with_number : List ℕ → ℕ → List ℕ
with_number text number = text ++ (if length text == 0 then [] else 43 ∷ []) ++ decimal number
