-- The members of a board in order, each with the minute from which they are ready.
use Rattle.std.specs.Prelude.{ℕ, Bool, true, false, not, ◌&&◌, nat_eq, Option, None, Some, List, [], ◌∷◌, map, filter, if◌then◌else◌}
use Rattle.std.specs.List.{list_any}
use Rattle.slot_tree.specs.declared.slot.Slot.{Slot}

abbrev pub persons : List Slot → List ℕ
persons members = map (λ s. s.person) members

abbrev pub is_listed : ℕ → List Slot → Bool
is_listed p members = list_any (nat_eq p) (persons members)

-- filled by this person
abbrev pub holds : ℕ → Option Slot → Bool
holds p None = false
holds p (Some s) = nat_eq p s.person

-- the minute from which a person is ready; nothing where the person is no member
abbrev pub ready_of : ℕ → List Slot → Option ℕ
ready_of p [] = None
ready_of p (s ∷ members) = if nat_eq p s.person then Some s.ready else ready_of p members

-- all but this person
abbrev pub without : ℕ → List ℕ → List ℕ
without p ps = filter (λ q. not (nat_eq p q)) ps

-- nobody stands there twice
abbrev pub are_distinct : List ℕ → Bool
are_distinct [] = true
are_distinct (p ∷ ps) = not (list_any (nat_eq p) ps) && are_distinct ps
