-- What an audit reads and writes.
use Rattle.std.specs.Prelude.{◌≡◌, ◌≢◌, ◌⊎◌, ℕ, Option, List}
use Rattle.desk_io.specs.declared.status.Status.{Status}
use Rattle.desk_io.specs.declared.status.Status.TheVariants.{Fine, ReadFault, WriteFault, TooLong, NoMemory, AuditWrong, NoOpening, Unreadable}
use Rattle.std.specs.Io.KnownBytes.{Appends}
use Rattle.desk_io.specs.Faults.{Rose}
use Rattle.desk_io.specs.Giving.{AddsFront}
use Rattle.desk_io.specs.Input.{TookMore, TookFront}
use Rattle.audit_desk.specs.declared.journal.TheConstants.{JOURNAL_BYTES}
use Rattle.audit_desk.specs.declared.verdict.Verdict.{Verdict}
use Rattle.audit_desk.specs.declared.verdict.Verdict.TheVariants as verdict
use Rattle.audit_desk.specs.Found.{Finds}
use Rattle.audit_desk.specs.VerdictText.{verdict_text}
use Rattle.day_replay.specs.Ends.{WasRead, WritesOrFails, Tells, TellsMore, EndsAs}
use Rattle.crewdesk_main.specs.Lines.{HasTooManyLines, HasFewLines}

-- how an audit ends that finds this, where the sink has no fault
abbrev pub ends_as : Verdict → Status
ends_as (verdict.Legal count) = Fine
ends_as (verdict.Wrong line written right) = AuditWrong
ends_as (verdict.Unreadable line) = Unreadable
ends_as verdict.NoOpening = NoOpening
ends_as verdict.NoMemory = NoMemory

-- the text has no more lines than a journal may have, and an audit finds this in it
pub record IsAudited (text : List ℕ) (found : Verdict) : Type 0 where
  pub few : HasFewLines text
  pub finds : Finds text found

-- a journal was read, an audit finds in it what it ends so for, and this was done with the lines that tell it
pub record Audits (before after : Option (List ℕ)) (status : Status) (Writes : List ℕ → Type 0) : Type 0 where
  pub found : Verdict
  pub read : WasRead JOURNAL_BYTES before after (λ text. IsAudited text found)
  pub ends : ends_as found ≡ status
  pub written : Writes (verdict_text found)

-- which status comes where, by the bytes that the source tells
pub record EndsByTheJournal (result : Status) (left : Option (List ℕ)) : Type 0 where
  pub more_bytes : TellsMore JOURNAL_BYTES left → EndsAs result TooLong
  pub too_many : Tells JOURNAL_BYTES left HasTooManyLines → EndsAs result TooLong
  pub verdict : (found : Verdict) → Tells JOURNAL_BYTES left (λ text. IsAudited text found) → result ≢ WriteFault → EndsAs result (ends_as found)

-- a run that ended so did what an audit that ends so does: what its source and sink told before and after, and how many faults
-- they counted
pub record EndsAudit (result : Status) (left left' : Option (List ℕ)) (asked asked' : ℕ) (held held' : Option (List ℕ)) (given given' : ℕ) : Type 0 where
  pub fine : result ≡ Fine → Audits left left' Fine (Appends held held')
  pub write_fault : result ≡ WriteFault → Audits left left' Fine (AddsFront held held')
  pub write_cause : result ≡ WriteFault → Rose given given'
  pub read_cause : result ≡ ReadFault → Rose asked asked'
  pub too_long : result ≡ TooLong → TookMore left left' JOURNAL_BYTES ⊎ WasRead JOURNAL_BYTES left left' HasTooManyLines
  pub not_too_long : result ≢ TooLong → TookFront left left' JOURNAL_BYTES
  pub no_opening : result ≡ NoOpening → WasRead JOURNAL_BYTES left left' (λ text. IsAudited text verdict.NoOpening)
  pub wrong : result ≡ AuditWrong → Audits left left' AuditWrong (WritesOrFails held held' given given')
  pub unreadable : result ≡ Unreadable → Audits left left' Unreadable (WritesOrFails held held' given given')
  pub by_the_journal : EndsByTheJournal result left
