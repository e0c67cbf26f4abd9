-- Slots one by one: what a write leaves.
use Rattle.std.proofs.Common.{◌≡◌, ◌≢◌, ℕ, zero, suc, ◌<◌, true, Option, None, is_some, List, [], ◌∷◌, length, set, arith}
use Rattle.std.proofs.lemmas.List.{get_or-set_same, get_or-set_other}
use Rattle.slot_tree.specs.declared.slot.Slot.{Slot}
use Rattle.slot_tree.specs.Slots.{slot_at}

pub slot_at-written : (slots : List (Option Slot)) (i : ℕ) (x : Option Slot) → i < length slots → slot_at (set slots i x) i ≡ x
slot_at-written slots i x within = get_or-set_same slots i x None within

pub slot_at-others : (slots : List (Option Slot)) (i s : ℕ) (x : Option Slot) → s ≢ i → slot_at (set slots i x) s ≡ slot_at slots s
slot_at-others slots i s x other = get_or-set_other slots i s x None other

-- a filled slot is one of them
pub slot_at-within : (slots : List (Option Slot)) (s : ℕ) → is_some (slot_at slots s) ≡ true → s < length slots
slot_at-within [] s some = absurd (cc)
slot_at-within (x ∷ xs) zero some = omega arith
slot_at-within (x ∷ xs) (suc s) some = omega (arith, slot_at-within xs s some)
