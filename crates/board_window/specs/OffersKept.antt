-- What is kept under each number of a vacancy, the board that its open offer was made from, and what an entry makes of it.
use Rattle.std.specs.Prelude.{ℕ, Bool, ◌&&◌, nat_eq, nat_lt, Option, None, Some, is_none, if◌then◌else◌, List, [], ◌∷◌, ◌++◌, length}
use Rattle.std.specs.Option.{option_map}
use Rattle.desk_model.specs.declared.limits.TheConstants.{VACANCY_LIMIT}
use Rattle.board_window.specs.declared.offer_told.OfferTold.{OfferTold}

-- nothing is kept under the number, and there is room for one more
abbrev pub may_add : Option (Option (List ℕ)) → List ℕ → Bool
may_add had numbers = is_none had && nat_lt (length numbers) VACANCY_LIMIT

-- with a vacancy that is made, where it is new and there is room: what is kept under a number, and all numbers
abbrev pub with_made : Option ℕ → (ℕ → Option (Option (List ℕ))) → List ℕ → ℕ → Option (Option (List ℕ))
with_made None under numbers v = under v
with_made (Some vac) under numbers v = if may_add (under vac) numbers && nat_eq vac v then Some None else under v

abbrev pub numbers_with : Option ℕ → (ℕ → Option (Option (List ℕ))) → List ℕ → List ℕ
numbers_with None under numbers = numbers
numbers_with (Some vac) under numbers = if may_add (under vac) numbers then numbers ++ vac ∷ [] else numbers

-- with what is told of a vacancy's offer, where it was made: what is kept under a number
abbrev pub with_told : Option OfferTold → ℕ → Option (Option (List ℕ)) → Option (Option (List ℕ))
with_told None v had = had
with_told (Some told) v had = if nat_eq told.vac v then option_map (λ was. told.from) had else had
