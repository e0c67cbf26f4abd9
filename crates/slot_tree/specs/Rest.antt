-- A tree at rest keeps none of its slots and nodes yet. Behind those that are kept each is empty.
use Rattle.std.specs.Prelude.{◌≡◌, ℕ, ◌-◌, ◌*◌, ◌^◌, ◌<◌, ◌≤◌, Option, None, List, ◌++◌, length, replicate}
use Rattle.slot_tree.specs.declared.slot.Slot.{Slot}
use Rattle.slot_tree.specs.declared.nodes.TheConstants.{EMPTY}
use Rattle.slot_tree.specs.Nodes.{Keeps}
use Rattle.slot_tree.specs.Words.{TellFilled}

-- all slots of a tree of so many levels below the root, and all its nodes, where these are kept
abbrev pub all_slots : ℕ → List (Option Slot) → List (Option Slot)
all_slots height slots = slots ++ replicate (2 ^ height - length slots) None

abbrev pub all_nodes : ℕ → List ℕ → List ℕ
all_nodes height nodes = nodes ++ replicate (2 * 2 ^ height - length nodes) EMPTY

-- no more slots and nodes are kept than a tree of so many levels has, and there is memory for all
pub record HasRoom (height slots for_slots nodes for_nodes : ℕ) : Type 0 where
  pub slots_fit : slots ≤ 2 ^ height
  pub slots_room : 2 ^ height ≤ for_slots
  pub nodes_fit : nodes ≤ 2 * 2 ^ height
  pub nodes_room : 2 * 2 ^ height ≤ for_nodes

-- all slots and nodes of a tree stand, there is memory for all, all nodes are kept where a slot is filled, and the words tell which is
pub record IsKept (height next : ℕ) (slots : List (Option Slot)) (for_slots : ℕ) (nodes : List ℕ) (for_nodes : ℕ) (words : List ℕ) : Type 0 where
  pub stand : Keeps height next (all_slots height slots) (all_nodes height nodes)
  pub room : HasRoom height (length slots) for_slots (length nodes) for_nodes
  pub whole : 0 < next → length nodes ≡ 2 * 2 ^ height
  pub told : TellFilled (all_slots height slots) words
