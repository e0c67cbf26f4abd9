-- What lines of a journal, and their parts, say.
use Rattle.std.specs.Prelude.{◌≡◌, ℕ, ◌≤◌, List, ◌∷◌, ◌++◌, decimal}
use Rattle.std.specs.List.{join_with_byte}
use Rattle.desk_model.specs.statements.Entry.{EntryValue}
use Rattle.desk_model.specs.statements.Fits.{IsStated, Fits}
use Rattle.desk_model.specs.texts.Journal.{entry_line}
use Rattle.desk_model.specs.texts.StatedTexts.{stated_fields}
use Rattle.desk_model.specs.declared.limits.TheConstants.{LAST_CALLER}
use Rattle.desk_text.specs.declared.statement.Statement.{Statement}

-- the line is this entry's, each of whose values is in its range
pub record IsEntryLine (line : List ℕ) (e : EntryValue) : Type 0 where
  pub valid : Fits e
  pub line_is : line ≡ entry_line e

-- who stated what by an entry
abbrev pub statement_of : EntryValue → Statement
statement_of e = record { caller = e.caller; stated = e.stated }

-- the line is that of who stated what as far as it tells that, and this outcome is behind it
pub record BeginsEntry (line outcome : List ℕ) (s : Statement) : Type 0 where
  pub caller_in : s.caller ≤ LAST_CALLER
  pub valid : IsStated s.stated
  pub line_is : line ≡ decimal s.caller ++ 124 ∷ (join_with_byte 44 (stated_fields s.stated) ++ 124 ∷ outcome)
