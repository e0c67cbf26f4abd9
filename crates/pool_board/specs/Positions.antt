-- Positions on a board, from 1.
use Rattle.std.specs.Prelude.{◌≡◌, ℕ, ◌-◌, ◌<◌, ◌≤◌, ◌==◌, true, false, Option, None, Some, List, slice_get, if◌then◌else◌}
use Rattle.slot_tree.specs.declared.slot.Slot.{Slot}
use Rattle.slot_tree.specs.Slots.{is_ready}

-- what stands at the position; nothing where there is no such position
abbrev pub at_position : {X : Type 0} → List X → ℕ → Option X
at_position xs position = if position == 0 then None else slice_get xs (position - 1)

-- the member at the position is ready at the minute, and none from the one on and before it is
pub record IsFirstReadyPosition (members : List Slot) (from minute position : ℕ) : Type 0 where
  pub behind : from ≤ position
  pub ready : is_ready minute (at_position members position) ≡ true
  pub first : (k : ℕ) → from ≤ k → k < position → is_ready minute (at_position members k) ≡ false

-- the first position, from one on, whose member is ready at the minute, or that there is none
abbrev pub FindsReadyPosition : List Slot → ℕ → ℕ → Option ℕ → Type 0
FindsReadyPosition members from minute None = (k : ℕ) → from ≤ k → is_ready minute (at_position members k) ≡ false
FindsReadyPosition members from minute (Some position) = IsFirstReadyPosition members from minute position
