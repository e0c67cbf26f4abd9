-- Slots in a row, each empty or filled by a person with the minute from which the person is ready.
use Rattle.std.specs.Prelude.{ℕ, ◌+◌, ◌-◌, ◌==◌, Bool, false, ◌&&◌, nat_le, Option, None, Some, is_some, is_none, List, [], ◌∷◌, ◌++◌, length, replicate, slice_index_or, if◌then◌else◌}
use Rattle.std.specs.List.{cons_option, filter}
use Rattle.slot_tree.specs.declared.slot.Slot.{Slot}

-- what the slot of that number holds; nothing where there is no such slot
abbrev pub slot_at : List (Option Slot) → ℕ → Option Slot
slot_at slots n = slice_index_or slots n None

-- filled by a person who is ready at the minute
abbrev pub is_ready : ℕ → Option Slot → Bool
is_ready minute None = false
is_ready minute (Some s) = nat_le s.ready minute

-- the same person, ready from another minute on
abbrev pub with_ready : ℕ → Option Slot → Option Slot
with_ready minute None = None
with_ready minute (Some s) = Some (record { person = s.person; ready = minute })

-- what fills the filled ones, in order
abbrev pub filled : List (Option Slot) → List Slot
filled [] = []
filled (x ∷ xs) = cons_option x (filled xs)

-- how many slots there are up to the last filled one
abbrev pub filled_end : List (Option Slot) → ℕ
filled_end [] = 0
filled_end (x ∷ xs) = if is_none x && (filled_end xs == 0) then 0 else filled_end xs + 1

-- the filled ones moved to the front
abbrev pub compacted : List (Option Slot) → List (Option Slot)
compacted slots = filter is_some slots ++ replicate (length slots - length (filter is_some slots)) None
