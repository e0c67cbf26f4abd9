-- The bits of words of 64 each, and which slots they tell to be filled.
use Rattle.std.specs.Prelude.{◌≡◌, ℕ, zero, suc, ◌+◌, ◌/◌, ◌%◌, ◌<◌, ◌≤◌, ◌==◌, Bool, true, Option, None, Some, is_some, List, cond, slice_index}
use Rattle.std.specs.Int.{bit_at}
use Rattle.slot_tree.specs.declared.limits.TheConstants.{SLOT_LIMIT}
use Rattle.slot_tree.specs.declared.slot.Slot.{Slot}
use Rattle.slot_tree.specs.Slots.{slot_at}

-- the bit of that number is set; none is behind the last word
abbrev pub has_bit : List ℕ → ℕ → Bool
has_bit words i = bit_at (slice_index words (i / 64)) (i % 64) == 1

-- how many of the bits before that one are set
unfoldable pub bits_before : List ℕ → ℕ → ℕ
bits_before words zero = 0
bits_before words (suc n) = bits_before words n + cond (has_bit words n) 1 0

-- there is a bit for each slot, set exactly where the slot is filled
abbrev pub TellFilled : List (Option Slot) → List ℕ → Type 0
TellFilled slots words = (i : ℕ) → has_bit words i ≡ is_some (slot_at slots i)

-- the bit is set, and as many before it are as make it number `position` from the front, from 1; or fewer are set
abbrev pub FindsBit : List ℕ → ℕ → Option ℕ → Type 0
FindsBit words position None = 1 ≤ position → bits_before words SLOT_LIMIT < position
FindsBit words position (Some at) = (has_bit words at ≡ true) × (bits_before words at + 1 ≡ position)
