-- What an audit finds in a text.
use Rattle.std.specs.Prelude.{◌≡◌, ◌≢◌, ℕ, ◌+◌, List, [], ◌++◌, length}
use Rattle.desk_model.specs.statements.Opening.{OpeningValue, IsOpening}
use Rattle.desk_model.specs.statements.Entry.{EntryValue}
use Rattle.desk_model.specs.statements.Fits.{Fits}
use Rattle.desk_model.specs.histories.History.{History}
use Rattle.desk_model.specs.histories.Legal.{IsLegal, next}
use Rattle.desk_model.specs.texts.Journal.{opening_line, entry_line, journal}
use Rattle.audit_desk.specs.declared.outcome.Outcome.{Outcome}
use Rattle.audit_desk.specs.declared.verdict.Verdict.{Verdict}
use Rattle.audit_desk.specs.declared.verdict.Verdict.TheVariants as verdict

-- the text begins with the journal of a legal history, and this is behind it
pub record Begins (text : List ℕ) (h : History) (rest : List ℕ) : Type 0 where
  pub legal : IsLegal h
  pub parts : text ≡ journal h ++ rest

-- the number of the line behind the journal of a history: the opening's is 1, and that of its first entry 2
abbrev pub line_behind : History → ℕ
line_behind h = length h.entries + 2

-- what the desk answered by an entry
abbrev pub outcome_of : EntryValue → Outcome
outcome_of e = record { moment = e.moment; reply = e.reply }

-- the text is the journal of a legal history with so many entries
pub record IsJournal (text : List ℕ) (count : ℕ) : Type 0 where
  pub history : History
  pub begins : Begins text history []
  pub count_is : count ≡ length history.entries

-- the line behind the journal of a legal history is that of an entry with this outcome, and to who stated it, and what was stated,
-- the rules give another
pub record HasWrong (text : List ℕ) (line : ℕ) (written right : Outcome) : Type 0 where
  pub history : History
  pub entry : EntryValue
  pub rest : List ℕ
  pub begins : Begins text history (entry_line entry ++ rest)
  pub fits : Fits entry
  pub line_is : line ≡ line_behind history
  pub written_is : written ≡ outcome_of entry
  pub right_is : right ≡ outcome_of (next history entry.caller entry.stated)
  pub differ : written ≢ right

-- there is something behind the journal of a legal history, and it begins with the line of no entry
pub record HasUnreadable (text : List ℕ) (line : ℕ) : Type 0 where
  pub history : History
  pub rest : List ℕ
  pub begins : Begins text history rest
  pub some : rest ≢ []
  pub none : (e : EntryValue) (later : List ℕ) → Fits e → rest ≢ entry_line e ++ later
  pub line_is : line ≡ line_behind history

-- the text begins with the line of no opening
abbrev pub HasNoOpening : List ℕ → Type 0
HasNoOpening text = (o : OpeningValue) (rest : List ℕ) → IsOpening o → text ≢ opening_line o ++ rest

-- what a verdict says of a text; want of memory says nothing of it, so it is never found
abbrev pub Finds : List ℕ → Verdict → Type 0
Finds text (verdict.Legal count) = IsJournal text count
Finds text (verdict.Wrong line written right) = HasWrong text line written right
Finds text (verdict.Unreadable line) = HasUnreadable text line
Finds text verdict.NoOpening = HasNoOpening text
Finds text verdict.NoMemory = ⊥
