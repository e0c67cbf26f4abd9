-- What a search among slots finds.
use Rattle.std.specs.Prelude.{◌≡◌, ℕ, ◌+◌, ◌<◌, ◌≤◌, true, false, Option, None, Some, is_some, List, length, take}
use Rattle.slot_tree.specs.declared.slot.Slot.{Slot}
use Rattle.slot_tree.specs.Slots.{slot_at, is_ready, filled}

-- the slot is ready at the minute, and no slot from the one on and before it is
pub record IsFirstReady (slots : List (Option Slot)) (from minute at : ℕ) : Type 0 where
  pub behind : from ≤ at
  pub ready : is_ready minute (slot_at slots at) ≡ true
  pub first : (s : ℕ) → from ≤ s → s < at → is_ready minute (slot_at slots s) ≡ false

-- the first slot, from one on, that is ready at the minute, or that there is none
abbrev pub FindsReady : List (Option Slot) → ℕ → ℕ → Option ℕ → Type 0
FindsReady slots from minute None = (s : ℕ) → from ≤ s → is_ready minute (slot_at slots s) ≡ false
FindsReady slots from minute (Some at) = IsFirstReady slots from minute at

-- the slot is filled, and as many are filled before it as make it number `position` from the front, from 1
pub record IsFilledAs (slots : List (Option Slot)) (position at : ℕ) : Type 0 where
  pub filled_there : is_some (slot_at slots at) ≡ true
  pub before : length (filled (take at slots)) + 1 ≡ position

-- the slot that is filled as that number from the front, from 1, or that there is none
abbrev pub FindsFilled : List (Option Slot) → ℕ → Option ℕ → Type 0
FindsFilled slots position None = 1 ≤ position → length (filled slots) < position
FindsFilled slots position (Some at) = IsFilledAs slots position at
