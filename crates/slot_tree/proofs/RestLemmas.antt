-- What is kept of a tree, and all its slots and nodes.
use Rattle.std.proofs.Common.{◌≡◌, ℕ, zero, suc, ◌-◌, ◌*◌, ◌^◌, ◌≤◌, false, Option, None, Some, is_some, List, [], ◌∷◌, ◌++◌, length, replicate, set, refl, sym, ap, subst, ◌∙◌, arith}
use Rattle.std.specs.List.{filter}
use Rattle.std.proofs.lemmas.List.{append-nil}
use Rattle.slot_tree.specs.declared.slot.Slot.{Slot}
use Rattle.slot_tree.specs.declared.nodes.TheConstants.{EMPTY}
use Rattle.slot_tree.specs.Slots.{slot_at, filled_end}
use Rattle.slot_tree.specs.Nodes.{AreLeast, KeysStand, Keeps}
use Rattle.slot_tree.specs.Words.{has_bit, TellFilled}
use Rattle.slot_tree.specs.Rest.{all_slots, all_nodes, IsKept}
use Rattle.slot_tree.proofs.EndLemmas.{is_end}
use Rattle.slot_tree.proofs.KeepLemmas.{keeps-new, keeps-written}

-- where all are kept
pub all_slots-whole : (height : ℕ) (slots : List (Option Slot)) → length slots ≡ 2 ^ height → all_slots height slots ≡ slots
all_slots-whole height slots long =
    let none : 2 ^ height - length slots ≡ 0 = omega (arith, long) in
    ap (λ n. slots ++ replicate n None) none ∙ append-nil slots

pub all_nodes-whole : (height : ℕ) (nodes : List ℕ) → length nodes ≡ 2 * 2 ^ height → all_nodes height nodes ≡ nodes
all_nodes-whole height nodes long =
    let none : 2 * 2 ^ height - length nodes ≡ 0 = omega (arith, long) in
    ap (λ n. nodes ++ replicate n EMPTY) none ∙ append-nil nodes

-- a slot that isn't kept is empty
pub slot_at-all : (height : ℕ) (slots : List (Option Slot)) (s : ℕ) → slot_at (all_slots height slots) s ≡ slot_at slots s
slot_at-all height slots s = behind slots (2 ^ height - length slots) s
  where
    empties : (n k : ℕ) → slot_at (replicate n None) k ≡ None
    empties zero k = refl
    empties (suc n) zero = refl
    empties (suc n) (suc k) = empties n k

    behind : (xs : List (Option Slot)) (n k : ℕ) → slot_at (xs ++ replicate n None) k ≡ slot_at xs k
    behind [] n k = empties n k
    behind (x ∷ xs) n zero = refl
    behind (x ∷ xs) n (suc k) = behind xs n k

-- where no slot is filled, each is empty
pub slot_at-unfilled : (height next : ℕ) (slots : List (Option Slot)) (nodes : List ℕ) → Keeps height next slots nodes → next ≡ 0 → (s : ℕ) → slot_at slots s ≡ None
slot_at-unfilled height next slots nodes keeps none s = (is_end slots).after s (omega (arith, sym keeps.ends, none))

-- a tree that keeps all
pub kept-whole : (height next : ℕ) (slots : List (Option Slot)) (for_slots : ℕ) (nodes : List ℕ) (for_nodes : ℕ) (words : List ℕ) → Keeps height next slots nodes → 2 ^ height ≤ for_slots → 2 * 2 ^ height ≤ for_nodes → TellFilled slots words
    → IsKept height next slots for_slots nodes for_nodes words
kept-whole height next slots for_slots nodes for_nodes words keeps slots_room nodes_room told = record {
  stand = subst (λ xs. Keeps height next xs (all_nodes height nodes)) (sym (all_slots-whole height slots keeps.many))
      (subst (Keeps height next slots) (sym (all_nodes-whole height nodes keeps.twice)) keeps);
  room = record {
    slots_fit = omega (arith, keeps.many);
    slots_room = slots_room;
    nodes_fit = omega (arith, keeps.twice);
    nodes_room = nodes_room;
  };
  whole = λ some. keeps.twice;
  told = λ i. told i ∙ ap is_some (sym (slot_at-all height slots i));
}

-- one that keeps none
pub kept-none : (height for_slots for_nodes : ℕ) (words : List ℕ) → height ≤ 10 → 2 ^ height ≤ for_slots → 2 * 2 ^ height ≤ for_nodes → ((i : ℕ) → has_bit words i ≡ false) → IsKept height 0 [] for_slots [] for_nodes words
kept-none height for_slots for_nodes words low slots_room nodes_room none = record {
  stand = subst (λ n. Keeps height 0 (replicate n None) (all_nodes height [])) (sym slots)
      (subst (λ n. Keeps height 0 (replicate (2 ^ height) None) (replicate n EMPTY)) (sym nodes) (keeps-new height (2 ^ height) low refl));
  room = record {
    slots_fit = omega arith;
    slots_room = slots_room;
    nodes_fit = omega arith;
    nodes_room = nodes_room;
  };
  whole = λ some. absurd (omega (arith, some));
  told = λ i. none i ∙ ap is_some (sym (slot_at-all height [] i));
}
  where
    slots : 2 ^ height - 0 ≡ 2 ^ height
    slots = omega arith

    nodes : 2 * 2 ^ height - 0 ≡ 2 * 2 ^ height
    nodes = omega arith

-- a tree after a slot was written, of which all was kept first
pub kept-written : (height next was : ℕ) (slots all new_slots : List (Option Slot)) (for_slots slots_room : ℕ) (nodes every new_nodes : List ℕ) (for_nodes nodes_room : ℕ) (i : ℕ) (x : Option Slot) (words new_words : List ℕ)
    → IsKept height was slots for_slots nodes for_nodes words → all ≡ all_slots height slots → every ≡ all_nodes height nodes → for_slots ≤ slots_room → for_nodes ≤ nodes_room
    → new_slots ≡ set all i x → length new_nodes ≡ length every → AreLeast new_nodes → KeysStand new_slots new_nodes → next ≡ filled_end (set all i x) → TellFilled new_slots new_words
    → IsKept height next new_slots slots_room new_nodes nodes_room new_words
kept-written height next was slots all new_slots for_slots slots_room nodes every new_nodes for_nodes nodes_room i x words new_words kept all_is every_is more_slots more_nodes slots_are long least keys ends told =
    let stand : Keeps height was all every = subst (λ xs. Keeps height was xs every) (sym all_is) (subst (Keeps height was (all_slots height slots)) (sym every_is) kept.stand) in
    kept-whole height next new_slots slots_room new_nodes nodes_room new_words (keeps-written height next was all new_slots every new_nodes i x stand slots_are long least keys ends)
    (omega (arith, kept.room.slots_room, more_slots)) (omega (arith, kept.room.nodes_room, more_nodes)) told

-- those that are filled are kept
pub filter-all : (height : ℕ) (slots : List (Option Slot)) → filter is_some (all_slots height slots) ≡ filter is_some slots
filter-all height slots = behind slots (2 ^ height - length slots)
  where
    none : (n : ℕ) → filter {X = Option Slot} is_some (replicate n None) ≡ []
    none zero = refl
    none (suc n) = none n

    behind : (xs : List (Option Slot)) (n : ℕ) → filter is_some (xs ++ replicate n None) ≡ filter is_some xs
    behind [] n = none n
    behind (None ∷ xs) n = behind xs n
    behind (Some x ∷ xs) n = ap (λ ys. Some x ∷ ys) (behind xs n)
