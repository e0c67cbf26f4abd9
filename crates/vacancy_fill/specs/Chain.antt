-- The chain of a vacancy over its boards, and the first of it whom nothing bars.
use Rattle.std.specs.Prelude.{◌≡◌, ℕ, ◌+◌, ◌*◌, ◌<◌, Bool, true, ◌&&◌, Option, None, Some, is_some, is_none, List, [], ◌∷◌, ◌++◌, length, slice_get, filter}
use Rattle.std.specs.List.{find}
use Rattle.denial_rules.specs.declared.bar.Bar.{Bar}
use Rattle.slot_tree.specs.declared.slot.Slot.{Slot}
use Rattle.slot_tree.specs.Slots.{is_ready}
use Rattle.pool_board.specs.Board.{BoardValue}
use Rattle.pool_board.specs.Members.{persons, ready_of}
use Rattle.vacancy_fill.specs.declared.fill.Found.{Found}

-- the members of the board that an index of the chain names; none where there is no such board
abbrev pub members_of : Option BoardValue → List Slot
members_of None = []
members_of (Some board) = board.members

abbrev pub members_at : List BoardValue → ℕ → List Slot
members_at boards index = members_of (slice_get boards index)

-- the positions of a board from this one on, at that link of the chain, with these persons
abbrev pub positions : ℕ → ℕ → List ℕ → List Found
positions link position [] = []
positions link position (p ∷ ps) = record { link = link; person = p; position = position } ∷ positions link (position + 1) ps

-- the chain from this link on: the boards' members one after another
abbrev pub chain_from : List BoardValue → ℕ → List ℕ → List Found
chain_from boards link [] = []
chain_from boards link (index ∷ chain) = positions link 1 (persons (members_at boards index)) ++ chain_from boards (link + 1) chain

-- the first of it whom nothing bars
abbrev pub first_free : (ℕ → Option Bar) → List Found → Option Found
first_free bar links = find (λ f. is_none (bar f.person)) links

-- a member who isn't ready at the minute has a bar
abbrev pub BarsUnready : (ℕ → Option Bar) → ℕ → List Slot → Type 0
BarsUnready bar minute members = (p ready : ℕ) → ready_of p members ≡ Some ready → minute < ready → is_some (bar p) ≡ true

-- ready at the minute, and barred
abbrev pub is_passed_over : (ℕ → Option Bar) → ℕ → Slot → Bool
is_passed_over bar minute s = is_ready minute (Some s) && is_some (bar s.person)

-- how many of the members are
abbrev pub passed_over : (ℕ → Option Bar) → ℕ → List Slot → ℕ
passed_over bar minute members = length (filter (is_passed_over bar minute) members)

-- the most nodes that a search of these boards reads: with 2^10 slots each, 4 * (10 + 1) for each member who is ready and has a
-- bar, and as many once more
abbrev pub most_steps : (ℕ → Option Bar) → ℕ → List BoardValue → List ℕ → ℕ
most_steps bar minute boards [] = 0
most_steps bar minute boards (index ∷ chain) =
    (passed_over bar minute (members_at boards index) + 1) * (4 * (10 + 1)) + most_steps bar minute boards chain
