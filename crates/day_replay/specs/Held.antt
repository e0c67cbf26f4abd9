-- The journal of a day file, held until it is written.
use Rattle.std.specs.Prelude.{◌≡◌, ◌≢◌, ℕ, ◌+◌, List, [], ◌∷◌, ◌++◌, nat_lt, if◌then◌else◌, length, take, drop, codes}
use Rattle.desk_model.specs.statements.Entry.{EntryValue}
use Rattle.desk_model.specs.histories.History.{History}
use Rattle.desk_model.specs.texts.Journal.{entry_line, journal}
use Rattle.day_replay.specs.declared.held_line.HeldLine.{HeldLine}
use Rattle.day_replay.specs.declared.held_journal.HeldJournal.{HeldJournal}
use Rattle.command_parser.specs.Spelled.{SpellsStated}

-- what stands behind these bytes of a statement on the line of an entry that was done at the minute with whose text they begin
abbrev pub done_when_stated : List ℕ → List ℕ
done_when_stated stated = 124 ∷ take 16 stated ++ codes "|done\n"

-- what stands behind them: what is held as text; and where nothing is, it was done when it was stated. No statement has fewer than 16 bytes
abbrev pub held_behind : List ℕ → List ℕ → List ℕ
held_behind stated [] = if nat_lt (length stated) 16 then [] else done_when_stated stated
held_behind stated (byte ∷ text) = byte ∷ text

-- the line of an entry of which these bytes of its statement and this text are held: the text, where there are no such bytes; else caller 0,
-- these bytes, and what stands behind them
abbrev pub held_line : List ℕ → List ℕ → List ℕ
held_line [] text = text
held_line (byte ∷ stated) text = codes "0|" ++ (byte ∷ stated) ++ held_behind (byte ∷ stated) text

-- how many bytes of these lines are held as text
abbrev pub held_bytes : List HeldLine → ℕ
held_bytes [] = 0
held_bytes (line ∷ rest) = line.bytes + held_bytes rest

-- these lines, of which this is held as text, one behind another
abbrev pub held_lines : List HeldLine → List ℕ → List ℕ
held_lines [] texts = []
held_lines (line ∷ rest) texts = held_line line.stated.now (take line.bytes texts) ++ held_lines rest (drop line.bytes texts)

-- the text of a journal that is held
abbrev pub held_text : HeldJournal → List ℕ
held_text held = held.opening.items ++ held_lines held.lines.items held.texts.items

-- it is that of this history
pub record HoldsJournal (held : HeldJournal) (h : History) : Type 0 where
  pub text : held_text held ≡ journal h
  pub bytes : held_bytes held.lines.items ≡ length held.texts.items

-- behind the texts that are held there is now that of this entry's line, where caller 0 stated it and these bytes, unless there are none, are
-- the text of that
pub record AddsLine (stated before after : List ℕ) (e : EntryValue) : Type 0 where
  pub text : List ℕ
  pub added : after ≡ before ++ text
  pub line : e.caller ≡ 0 → (stated ≢ [] → SpellsStated stated e.stated) → held_line stated text ≡ entry_line e
