-- The text of a journal.
use Rattle.std.specs.Prelude.{ℕ, List, [], ◌∷◌, ◌++◌, decimal}
use Rattle.std.specs.List.{join_with_byte, flat_map}
use Rattle.desk_base.specs.Minute.{minute_text}
use Rattle.desk_model.specs.statements.Opening.{OpeningValue, opening_fields}
use Rattle.desk_model.specs.statements.Entry.{EntryValue}
use Rattle.desk_model.specs.histories.History.{History}
use Rattle.desk_model.specs.texts.StatedTexts.{stated_fields}
use Rattle.desk_model.specs.texts.ReplyTexts.{reply_text}

-- line 1: the opening's record, its fields joined by commas
unfoldable pub opening_line : OpeningValue → List ℕ
opening_line o = join_with_byte 44 (opening_fields o) ++ 10 ∷ []

-- the line of an entry: `caller|command|moment|reply`
unfoldable pub entry_line : EntryValue → List ℕ
entry_line e =
    decimal e.caller ++ 124 ∷ join_with_byte 44 (stated_fields e.stated) ++ 124 ∷ minute_text e.moment ++ 124 ∷ reply_text e.reply ++ 10 ∷ []

-- the lines of entries, one after another
abbrev pub entry_lines : List EntryValue → List ℕ
entry_lines es = flat_map entry_line es

-- the journal of a history
abbrev pub journal : History → List ℕ
journal h = opening_line h.opening ++ entry_lines h.entries
