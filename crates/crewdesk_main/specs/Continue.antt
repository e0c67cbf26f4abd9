-- What a run reads and writes that goes on with a journal.
use Rattle.std.specs.Prelude.{◌≡◌, ◌≢◌, ◌⊎◌, ℕ, ◌-◌, Option, List, length}
use Rattle.std.specs.Io.KnownBytes.{Appends}
use Rattle.desk_io.specs.declared.status.Status.{Status}
use Rattle.desk_io.specs.declared.status.Status.TheVariants.{Fine, ReadFault, WriteFault, TooLong, AuditWrong, NoOpening, Unreadable}
use Rattle.desk_io.specs.Faults.{Rose}
use Rattle.desk_io.specs.Giving.{AddsFront}
use Rattle.desk_io.specs.Input.{TookMore, TookFront}
use Rattle.desk_model.specs.statements.Statement.{StatedValue}
use Rattle.desk_model.specs.histories.History.{History}
use Rattle.desk_model.specs.histories.Legal.{IsLegal}
use Rattle.desk_model.specs.texts.Journal.{journal}
use Rattle.line_writer.specs.Line.{wrong_line}
use Rattle.command_parser.specs.MoreCommands.{AreCommands, HasMoreFault}
use Rattle.command_parser.specs.declared.more_fault.MoreFault.{MoreFault}
use Rattle.command_parser.specs.declared.more_fault.MoreFault.TheVariants as fault
use Rattle.audit_desk.specs.declared.journal.TheConstants.{JOURNAL_BYTES}
use Rattle.audit_desk.specs.declared.verdict.Verdict.{Verdict}
use Rattle.audit_desk.specs.declared.verdict.Verdict.TheVariants as verdict
use Rattle.audit_desk.specs.VerdictText.{verdict_text}
use Rattle.kept_desk.specs.declared.limits.TheConstants.{JOURNAL_ENTRIES}
use Rattle.day_replay.specs.Ends.{WasRead, WritesOrFails, Tells, TellsMore, EndsAs}
use Rattle.crewdesk_main.specs.Lines.{HasTooManyLines, HasFewLines}
use Rattle.crewdesk_main.specs.Audit.{IsAudited, ends_as}
use Rattle.crewdesk_main.specs.Parts.{journal_of, more_of}
use Rattle.day_replay.specs.Replay.{goes_on}

-- how many commands a journal with so many entries may go on with
abbrev pub room_behind : ℕ → ℕ
room_behind count = JOURNAL_ENTRIES - count

-- the text's journal is that of this legal history, with no more lines than it may have, and it goes on with these commands
pub record IsContinued (text : List ℕ) (h : History) (commands : List StatedValue) : Type 0 where
  pub few : HasFewLines (journal_of text)
  pub legal : IsLegal h
  pub journal : journal_of text ≡ journal h
  pub more : AreCommands (more_of text) (room_behind (length h.entries)) commands

-- the text's journal is a legal one, and this is the fault of what stands behind it
pub record HasCommandFault (text : List ℕ) (is : MoreFault) : Type 0 where
  pub count : ℕ
  pub audited : IsAudited (journal_of text) (verdict.Legal count)
  pub has : HasMoreFault (more_of text) (room_behind count) is

-- the text's journal has too many lines; or it is a legal one, and there are too many commands behind it
abbrev pub IsTooLong : List ℕ → Type 0
IsTooLong text = HasTooManyLines (journal_of text) ⊎ HasCommandFault text fault.TooMany

-- ---- what was read, and what was done with what is written of it. `Read P` says that P holds of the text that was read.

-- a journal that goes on: this was done with the journal of the history that it goes on to
pub record Continues (Read : (List ℕ → Type 0) → Type 0) (Writes : List ℕ → Type 0) : Type 0 where
  pub history : History
  pub commands : List StatedValue
  pub read : Read (λ text. IsContinued text history commands)
  pub legal : IsLegal (goes_on history commands)
  pub written : Writes (journal (goes_on history commands))

-- a journal that an audit ends so for: this was done with the lines that tell what it finds
pub record FindsVerdict (Read : (List ℕ → Type 0) → Type 0) (status : Status) (Writes : List ℕ → Type 0) : Type 0 where
  pub found : Verdict
  pub read : Read (λ text. IsAudited (journal_of text) found)
  pub ends : ends_as found ≡ status
  pub written : Writes (verdict_text found)

-- a legal journal, and a command behind it with a wrong field: this was done with the line that says which
pub record FindsWrongCommand (Read : (List ℕ → Type 0) → Type 0) (Writes : List ℕ → Type 0) : Type 0 where
  pub record_no : ℕ
  pub field : ℕ
  pub read : Read (λ text. HasCommandFault text (fault.Unreadable record_no field))
  pub written : Writes (wrong_line record_no field)

-- which status comes where, by the text
pub record EndsByTheText (result : Status) (Told : (List ℕ → Type 0) → Type 0) : Type 0 where
  pub too_long : Told IsTooLong → EndsAs result TooLong
  pub verdict : (found : Verdict) → Told (λ text. IsAudited (journal_of text) found) → ends_as found ≢ Fine → EndsAs result (ends_as found)
  pub unreadable : (record_no field : ℕ) → Told (λ text. HasCommandFault text (fault.Unreadable record_no field)) → EndsAs result Unreadable
  pub goes_on : (h : History) (commands : List StatedValue) → Told (λ text. IsContinued text h commands) → result ≢ WriteFault → EndsAs result Fine

-- a run that ended so did what one that ends so does: what its source and sink told before and after, and how many faults they
-- counted
pub record EndsContinue (result : Status) (left left' : Option (List ℕ)) (asked asked' : ℕ) (held held' : Option (List ℕ)) (given given' : ℕ) : Type 0 where
  pub fine : result ≡ Fine → Continues (WasRead JOURNAL_BYTES left left') (Appends held held')
  pub write_fault : result ≡ WriteFault → Continues (WasRead JOURNAL_BYTES left left') (AddsFront held held')
  pub write_cause : result ≡ WriteFault → Rose given given'
  pub read_cause : result ≡ ReadFault → Rose asked asked'
  pub too_long : result ≡ TooLong → TookMore left left' JOURNAL_BYTES ⊎ WasRead JOURNAL_BYTES left left' IsTooLong
  pub not_too_long : result ≢ TooLong → TookFront left left' JOURNAL_BYTES
  pub no_opening : result ≡ NoOpening → WasRead JOURNAL_BYTES left left' (λ text. IsAudited (journal_of text) verdict.NoOpening)
  pub wrong : result ≡ AuditWrong → FindsVerdict (WasRead JOURNAL_BYTES left left') AuditWrong (WritesOrFails held held' given given')
  pub unreadable : result ≡ Unreadable
      → FindsVerdict (WasRead JOURNAL_BYTES left left') Unreadable (WritesOrFails held held' given given')
      ⊎ FindsWrongCommand (WasRead JOURNAL_BYTES left left') (WritesOrFails held held' given given')
  pub more_bytes : TellsMore JOURNAL_BYTES left → EndsAs result TooLong
  pub by_the_text : EndsByTheText result (Tells JOURNAL_BYTES left)
