-- The numbers of slots, and what a search of them finds.
use Rattle.std.proofs.Common.{◌≡◌, ℕ, ◌+◌, ◌-◌, ◌*◌, ◌^◌, ◌<◌, ◌≤◌, inl, inr, true, false, Option, None, Some, List, length, replicate, set, slice_index, refl, sym, ap, ◌∙◌, arith}
use Rattle.std.proofs.lemmas.Bool.{cases_lt, cases_order, le-leb, lt-leb}
use Rattle.std.proofs.lemmas.List.{length-set, length-replicate, get_or-replicate, get_or_past}
use Rattle.std.proofs.lemmas.Nat.{pow_below}
use Rattle.std.proofs.Math.Nat.{pow-le-pow_right}
use Rattle.slot_tree.specs.declared.slot.Slot.{Slot}
use Rattle.slot_tree.specs.declared.nodes.TheConstants.{EMPTY}
use Rattle.slot_tree.specs.Slots.{slot_at, is_ready, filled_end}
use Rattle.slot_tree.specs.Search.{IsFirstReady, FindsReady}
use Rattle.slot_tree.specs.Nodes.{key, KeysStand, AreLeast, Keeps, IsFirstBelow, FindsBelow}
use Rattle.slot_tree.proofs.EndLemmas.{empties, filled_end-is}

-- one power of two is of one exponent
pub same_power : (i j : ℕ) → 2 ^ i ≡ 2 ^ j → i ≡ j
same_power i j same = elim (cases_order i j) [
  | inl is ↦ is
  | inr (inl less) ↦ absurd (omega (arith, pow_below i j less, same))
  | inr (inr more) ↦ absurd (omega (arith, pow_below j i more, same))
]

-- a tree has at most 1,024 slots
pub size-few : (height : ℕ) → height ≤ 10 → 2 ^ height ≤ 1024
size-few height low =
    let some : 0 < 2 = omega arith in
    pow-le-pow_right some low

-- a slot has no more than a minute where it is ready
pub key-ready : (x : Option Slot) (m : ℕ) → m < 2 ^ 28 → key x ≤ m → is_ready m x ≡ true
key-ready None m small low = absurd (omega (arith, small, low))
key-ready (Some s) m small low = le-leb s.ready m low

pub key-later : (x : Option Slot) (m : ℕ) → m < key x → is_ready m x ≡ false
key-later None m high = refl
key-later (Some s) m high = lt-leb s.ready m high

pub past : (slots : List (Option Slot)) (s : ℕ) → length slots ≤ s → slot_at slots s ≡ None
past slots s low = get_or_past slots s None low

-- what the lowest nodes say of the slots
pub finds-ready : (slots : List (Option Slot)) (nodes : List ℕ) (from m many : ℕ) (at : ℕ) → many ≡ length slots → length nodes ≡ 2 * length slots → KeysStand slots nodes → m < 2 ^ 28
    → IsFirstBelow nodes (many + from) m at → IsFirstReady slots from m (at - many)
finds-ready slots nodes from m many at many_is long keys small found = record {
  behind = omega (arith, found.behind);
  ready = key-ready (slot_at slots (at - many)) m small (omega (arith, found.below, here));
  first = λ s low high.
      let is = keys s (omega (arith, high, found.within, long, many_is)) in
      let position : many + s ≡ length slots + s = omega (arith, many_is) in
      let same : slice_index nodes (many + s) ≡ slice_index nodes (length slots + s) = ap (slice_index nodes) position in
      key-later (slot_at slots s) m (omega (arith, found.first (many + s) (omega (arith, low)) (omega (arith, high)), is, same));
}
  where
    here : slice_index nodes at ≡ key (slot_at slots (at - many))
    here =
        let position : at ≡ length slots + (at - many) = omega (arith, found.behind, many_is) in
        ap (slice_index nodes) position ∙ keys (at - many) (omega (arith, found.within, found.behind, long, many_is))

pub finds-none : (slots : List (Option Slot)) (nodes : List ℕ) (from m many : ℕ) → many ≡ length slots → length nodes ≡ 2 * length slots → KeysStand slots nodes
    → FindsBelow nodes (many + from) m None → FindsReady slots from m None
finds-none slots nodes from m many many_is long keys none s low = elim (cases_lt s (length slots)) [
  | inl within ↦
      let position : many + s ≡ length slots + s = omega (arith, many_is) in
      let same : slice_index nodes (many + s) ≡ slice_index nodes (length slots + s) = ap (slice_index nodes) position in
      key-later (slot_at slots s) m (omega (arith, none (many + s) (omega (arith, low)) (omega (arith, within, long, many_is)), keys s within, same))
  | inr beyond ↦ ap (is_ready m) (past slots s beyond)
]

-- a tree after a slot was written
pub keeps-written : (height next was : ℕ) (slots new_slots : List (Option Slot)) (nodes new_nodes : List ℕ) (i : ℕ) (x : Option Slot) → Keeps height was slots nodes
    → new_slots ≡ set slots i x → length new_nodes ≡ length nodes → AreLeast new_nodes → KeysStand new_slots new_nodes → next ≡ filled_end (set slots i x) → Keeps height next new_slots new_nodes
keeps-written height next was slots new_slots nodes new_nodes i x keeps slots_are long least keys ends = record {
  low = keeps.low;
  many = ap length slots_are ∙ length-set slots i x ∙ keeps.many;
  twice = long ∙ keeps.twice;
  least = least;
  keys = keys;
  ends = ends ∙ ap filled_end (sym slots_are);
}

-- a new one
pub keeps-new : (height many : ℕ) → height ≤ 10 → many ≡ 2 ^ height → Keeps height 0 (replicate many None) (replicate (2 * many) EMPTY)
keeps-new height many low is = record {
  low = low;
  many = length-replicate {A = Option Slot} many None ∙ is;
  twice = length-replicate (2 * many) EMPTY ∙ ap (λ n. 2 * n) is;
  least = λ n some within.
      let long = length-replicate (2 * many) EMPTY in
      let here = get_or-replicate (2 * many) n EMPTY 0 (omega (arith, within, long)) in
      let left = get_or-replicate (2 * many) (2 * n) EMPTY 0 (omega (arith, within, long)) in
      let right = get_or-replicate (2 * many) (2 * n + 1) EMPTY 0 (omega (arith, within, long)) in
      omega (arith, here, left, right);
  keys = λ s within.
      let long = length-replicate {A = Option Slot} many None in
      let number : slice_index (replicate (2 * many) EMPTY) (length (replicate {A = Option Slot} many None) + s) ≡ EMPTY = get_or-replicate (2 * many) (length (replicate {A = Option Slot} many None) + s) EMPTY 0 (omega (arith, within, long)) in
      let slot : slot_at (replicate many None) s ≡ None = get_or-replicate many s None None (omega (arith, within, long)) in
      rw (number, slot) refl;
  ends = sym (filled_end-empty many);
}
  where
    filled_end-empty : (n : ℕ) → filled_end (replicate n None) ≡ 0
    filled_end-empty n = filled_end-is (replicate n None) 0 record { after = λ s low. empties n s; before = λ some. absurd (omega (arith, some)) }
