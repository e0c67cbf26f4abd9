-- How a slot tree is kept: nodes from the root, number 1, where node n has the two below it of numbers 2n and 2n + 1. The lowest are
-- the slots, and each other node has the lesser number of its two.
use Rattle.std.specs.Prelude.{◌≡◌, ℕ, ◌+◌, ◌*◌, ◌^◌, ◌<◌, ◌≤◌, min, Option, None, Some, List, length, slice_index}
use Rattle.slot_tree.specs.declared.slot.Slot.{Slot}
use Rattle.slot_tree.specs.declared.nodes.TheConstants.{EMPTY}
use Rattle.slot_tree.specs.Slots.{slot_at, filled_end}

-- a slot's number: the ready minute, or one that no minute has
abbrev pub key : Option Slot → ℕ
key None = EMPTY
key (Some s) = s.ready

abbrev pub IsLesser : List ℕ → ℕ → Type 0
IsLesser nodes n = slice_index nodes n ≡ min (slice_index nodes (2 * n)) (slice_index nodes (2 * n + 1))

abbrev pub AreLeast : List ℕ → Type 0
AreLeast nodes = (n : ℕ) → 1 ≤ n → 2 * n + 1 < length nodes → IsLesser nodes n

abbrev pub KeysStand : List (Option Slot) → List ℕ → Type 0
KeysStand slots nodes = (s : ℕ) → s < length slots → slice_index nodes (length slots + s) ≡ key (slot_at slots s)

-- what a tree of so many levels below the root keeps: where the filled slots end, the slots and the nodes
pub record Keeps (height next : ℕ) (slots : List (Option Slot)) (nodes : List ℕ) : Type 0 where
  pub low : height ≤ 10
  pub many : length slots ≡ 2 ^ height
  pub twice : length nodes ≡ 2 * 2 ^ height
  pub least : AreLeast nodes
  pub keys : KeysStand slots nodes
  pub ends : next ≡ filled_end slots

-- the first lowest node, from one on, that has no more than m, or that there is none
pub record IsFirstBelow (nodes : List ℕ) (from m at : ℕ) : Type 0 where
  pub behind : from ≤ at
  pub within : at < length nodes
  pub below : slice_index nodes at ≤ m
  pub first : (a : ℕ) → from ≤ a → a < at → m < slice_index nodes a

abbrev pub FindsBelow : List ℕ → ℕ → ℕ → Option ℕ → Type 0
FindsBelow nodes from m None = (a : ℕ) → from ≤ a → a < length nodes → m < slice_index nodes a
FindsBelow nodes from m (Some at) = IsFirstBelow nodes from m at
