-- What the forms read and write that tell tours: a journal as it stands, legal or not, and records.
use Rattle.std.specs.Prelude.{◌≡◌, ◌≢◌, ◌⊎◌, ℕ, Option, List, [], ◌∷◌, ◌++◌}
use Rattle.std.specs.List.{All}
use Rattle.desk_io.specs.declared.status.Status.{Status}
use Rattle.desk_io.specs.declared.status.Status.TheVariants.{Fine, ReadFault, WriteFault, TooLong, AuditWrong, NoOpening, Unreadable}
use Rattle.std.specs.Io.KnownBytes.{Appends}
use Rattle.desk_io.specs.Faults.{Rose}
use Rattle.desk_io.specs.Giving.{AddsFront}
use Rattle.desk_io.specs.Input.{TookMore, TookFront}
use Rattle.desk_model.specs.statements.Opening.{IsOpening}
use Rattle.desk_model.specs.statements.Entry.{EntryValue}
use Rattle.desk_model.specs.statements.Fits.{Fits}
use Rattle.desk_model.specs.histories.History.{History}
use Rattle.desk_model.specs.texts.Journal.{entry_line, journal}
use Rattle.audit_desk.specs.declared.journal.TheConstants.{JOURNAL_BYTES}
use Rattle.audit_desk.specs.declared.verdict.Verdict.{Verdict}
use Rattle.audit_desk.specs.declared.verdict.Verdict.TheVariants as verdict
use Rattle.audit_desk.specs.Found.{HasNoOpening, line_behind}
use Rattle.audit_desk.specs.VerdictText.{verdict_text}
use Rattle.duty_record.specs.declared.duty_records.DutyRecords.{DutyRecords}
use Rattle.duty_record.specs.declared.tour_record.TourRecord.{TourRecord}
use Rattle.duty_record.specs.Json.{json_text}
use Rattle.duty_record.specs.Kept.{Keeps}
use Rattle.duty_record.specs.Tours.{tours, excess_list}
use Rattle.crewdesk_main.specs.declared.tour_form.TourForm.{TourForm}
use Rattle.crewdesk_main.specs.declared.tour_form.TourForm.TheVariants as form
use Rattle.day_replay.specs.Ends.{WasRead, WritesOrFails, TellsMore, EndsAs, Tells as Holds}
use Rattle.crewdesk_main.specs.Lines.{HasTooManyLines, HasFewLines}

-- the text begins with the journal of this history, legal or not, each of whose values is in its range, and this is behind it
pub record StartsWith (text : List ℕ) (h : History) (rest : List ℕ) : Type 0 where
  pub valid : IsOpening h.opening
  pub fits : All Fits h.entries
  pub parts : text ≡ journal h ++ rest

-- something is behind the journal of such a history, and it begins with the line of no entry
pub record HasNoEntry (text : List ℕ) (line : ℕ) : Type 0 where
  pub history : History
  pub rest : List ℕ
  pub starts : StartsWith text history rest
  pub some : rest ≢ []
  pub none : (e : EntryValue) (later : List ℕ) → Fits e → rest ≢ entry_line e ++ later
  pub line_is : line ≡ line_behind history

-- the text is the journal of such a history, whose tours are kept
pub record KeepsJournal (records : DutyRecords) (text : List ℕ) : Type 0 where
  pub history : History
  pub starts : StartsWith text history []
  pub keeps : Keeps records history

-- what keeps a journal from being read
abbrev pub IsUnread : List ℕ → Verdict → Type 0
IsUnread text (verdict.Unreadable line) = HasNoEntry text line
IsUnread text verdict.NoOpening = HasNoOpening text
IsUnread text other = ⊥

-- the journal of this history was read, and this was done with what is written of it
pub record Tells (before after : Option (List ℕ)) (text : History → List ℕ) (Writes : List ℕ → Type 0) : Type 0 where
  pub history : History
  pub read : WasRead JOURNAL_BYTES before after (λ bytes. HasFewLines bytes × StartsWith bytes history [])
  pub written : Writes (text history)

-- a line that is no entry's was read, and this was done with the line that tells which
pub record TellsLine (before after : Option (List ℕ)) (Writes : List ℕ → Type 0) : Type 0 where
  pub line : ℕ
  pub read : WasRead JOURNAL_BYTES before after (λ bytes. HasFewLines bytes × HasNoEntry bytes line)
  pub written : Writes (verdict_text (verdict.Unreadable line))

-- which records are told of a history: those of a person's tours, or of all persons those that were too long
abbrev pub told_by : TourForm → History → List TourRecord
told_by (form.Record person) h = tours h person
told_by form.Excess h = excess_list h

-- they are written as JSON, on a line
abbrev pub tours_text : TourForm → History → List ℕ
tours_text how h = json_text (told_by how h) ++ 10 ∷ []

-- which status comes where, by the bytes that the source tells
pub record EndsByTheLines (result : Status) (left : Option (List ℕ)) : Type 0 where
  pub more_bytes : TellsMore JOURNAL_BYTES left → EndsAs result TooLong
  pub too_many : Holds JOURNAL_BYTES left HasTooManyLines → EndsAs result TooLong
  pub no_opening : Holds JOURNAL_BYTES left (λ bytes. HasFewLines bytes × HasNoOpening bytes) → EndsAs result NoOpening
  pub unreadable : (line : ℕ) → Holds JOURNAL_BYTES left (λ bytes. HasFewLines bytes × HasNoEntry bytes line) → EndsAs result Unreadable
  pub journal : (h : History) → Holds JOURNAL_BYTES left (λ bytes. HasFewLines bytes × StartsWith bytes h []) → result ≢ WriteFault → EndsAs result Fine

-- a run that ended so read a journal as it stands, and wrote this text of its history: what its source and sink told before and
-- after, and how many faults they counted
pub record EndsTelling (result : Status) (text : History → List ℕ) (left left' : Option (List ℕ)) (asked asked' : ℕ) (held held' : Option (List ℕ)) (given given' : ℕ) : Type 0 where
  pub fine : result ≡ Fine → Tells left left' text (Appends held held')
  pub write_fault : result ≡ WriteFault → Tells left left' text (AddsFront held held')
  pub write_cause : result ≡ WriteFault → Rose given given'
  pub read_cause : result ≡ ReadFault → Rose asked asked'
  pub too_long : result ≡ TooLong → TookMore left left' JOURNAL_BYTES ⊎ WasRead JOURNAL_BYTES left left' HasTooManyLines
  pub not_too_long : result ≢ TooLong → TookFront left left' JOURNAL_BYTES
  pub no_opening : result ≡ NoOpening → WasRead JOURNAL_BYTES left left' (λ bytes. HasFewLines bytes × HasNoOpening bytes)
  pub unreadable : result ≡ Unreadable → TellsLine left left' (WritesOrFails held held' given given')
  pub not_wrong : result ≢ AuditWrong
  pub by_the_lines : EndsByTheLines result left
