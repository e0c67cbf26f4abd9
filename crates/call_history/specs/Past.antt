-- The entries of a history of which only the last has bytes.
use Rattle.std.specs.Prelude.{◌≡◌, ℕ, zero, suc, Option, None, Some, List, [], ◌∷◌, ◌++◌}
use Rattle.desk_model.specs.statements.Entry.{EntryValue}
use Rattle.call_history.specs.declared.node.Node.{Node, out-Node}

-- so many entries, the last first: each is behind what was before it
abbrev pub all_of : ℕ → Option Node → List EntryValue
all_of zero last = []
all_of (suc n) None = []
all_of (suc n) (Some node) = all_of n (out-Node node).before.value ++ (out-Node node).entry ∷ []

-- the entry is the last of these
pub record IsLast (entries : List EntryValue) (entry : EntryValue) : Type 0 where
  pub before : List EntryValue
  pub are : entries ≡ before ++ entry ∷ []
