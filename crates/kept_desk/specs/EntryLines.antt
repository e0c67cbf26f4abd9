-- Lines of entries.
use Rattle.std.specs.Prelude.{◌≡◌, ℕ, ◌≤◌, List, length}
use Rattle.std.specs.List.{All}
use Rattle.desk_model.specs.statements.Entry.{EntryValue}
use Rattle.desk_model.specs.statements.Fits.{Fits}
use Rattle.desk_model.specs.texts.Journal.{entry_lines}

-- the text is the lines of entries, each of whose values is in its range, and of no more than these
pub record HasLines (text : List ℕ) (most : ℕ) : Type 0 where
  pub entries : List EntryValue
  pub fits : All Fits entries
  pub text_is : text ≡ entry_lines entries
  pub few : length entries ≤ most
