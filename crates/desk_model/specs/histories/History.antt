-- Histories: how a desk was opened, and its entries since. The number of an entry is how many entries are before it.
use Rattle.std.specs.Prelude.{ℕ, Bool, true, false, Option, None, if◌then◌else◌, List, [], ◌∷◌, ◌++◌, length}
use Rattle.std.specs.Option.{option_or}
use Rattle.desk_model.specs.declared.command.Cmd.{Cmd}
use Rattle.desk_model.specs.declared.reply.Reply.{Reply}
use Rattle.desk_model.specs.declared.reply.Reply.TheVariants as reply
use Rattle.desk_model.specs.statements.Opening.{OpeningValue}
use Rattle.desk_model.specs.statements.Entry.{EntryValue}

pub record History : Type 0 where
  pub opening : OpeningValue
  pub entries : List EntryValue

abbrev pub history_of : OpeningValue → List EntryValue → History
history_of o es = record { opening = o; entries = es }

-- that of a desk which was opened so and has answered nothing yet
abbrev pub opened : OpeningValue → History
opened o = history_of o []

-- a history with one entry more
abbrev pub with_entry : History → EntryValue → History
with_entry h e = history_of h.opening (h.entries ++ e ∷ [])

-- a step of the desk: an entry, and the history before it
pub record Step : Type 0 where
  pub before : History
  pub entry : EntryValue

abbrev pub step_of : History → EntryValue → Step
step_of h e = record { before = h; entry = e }

-- the steps that entries are which come after a history
abbrev pub steps_from : History → List EntryValue → List Step
steps_from h [] = []
steps_from h (e ∷ later) = step_of h e ∷ steps_from (with_entry h e) later

-- the steps of a history, in order
unfoldable pub steps : History → List Step
steps h = steps_from (opened h.opening) h.entries

-- the number of a step's entry
abbrev pub entry_no : Step → ℕ
entry_no s = length s.before.entries

-- the command was accepted
abbrev pub is_done : Reply → Bool
is_done reply.Done = true
is_done other = false

-- what an entry says by f, where its command was accepted
abbrev pub said : {X : Type 0} → (Cmd → Option X) → EntryValue → Option X
said f e = if is_done e.reply then f e.stated.cmd else None

-- what the first says of which f says anything, and what the last one says: of entries, or of steps
abbrev pub first_of : {E : Type 0} {X : Type 0} → (E → Option X) → List E → Option X
first_of f [] = None
first_of f (e ∷ later) = option_or (f e) (first_of f later)

abbrev pub last_of : {E : Type 0} {X : Type 0} → (E → Option X) → List E → Option X
last_of f [] = None
last_of f (e ∷ later) = option_or (last_of f later) (f e)
