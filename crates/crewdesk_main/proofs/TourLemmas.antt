-- Journals that are read as they stand.
use Rattle.std.proofs.Common.{◌≡◌, ◌≢◌, ◌∙◌, ◌+◌, ◌==◌, ℕ, true, List, [], ◌∷◌, ◌++◌, length, sym, ap, subst, arith, length-append, append-nil, Result, Ok, Err, IfOk, Option, ◌≤◌, inl, inr}
use Rattle.std.specs.Prelude.{◌⊎◌}
use Rattle.std.proofs.lemmas.Bool.Decides.{nat_tests}
use Rattle.std.proofs.lemmas.List.Elements.{All-append, All-cons, All-nil}
use Rattle.desk_model.specs.statements.Entry.{EntryValue}
use Rattle.desk_model.specs.statements.Fits.{Fits}
use Rattle.desk_model.specs.statements.Opening.{OpeningValue, IsOpening}
use Rattle.desk_model.specs.histories.History.{History, opened, with_entry}
use Rattle.desk_model.specs.texts.Journal.{opening_line, entry_line, journal}
use Rattle.line_writer.specs.Line.{IsLine}
use Rattle.desk_text.specs.SpelledEntry.{IsEntryLine}
use Rattle.duty_record.specs.declared.duty_records.DutyRecords.{DutyRecords}
use Rattle.duty_record.specs.Kept.{Keeps}
use Rattle.desk_io.specs.Input.{TookAll}
use Rattle.desk_io.specs.declared.status.Status.{Status}
use Rattle.desk_io.specs.declared.status.Status.TheVariants.{Fine, WriteFault, NoMemory, NoOpening, Unreadable}
use Rattle.audit_desk.specs.declared.journal.TheConstants.{JOURNAL_BYTES}
use Rattle.audit_desk.specs.declared.verdict.Verdict.{Verdict}
use Rattle.audit_desk.specs.declared.verdict.Verdict.TheVariants as verdict
use Rattle.audit_desk.specs.VerdictText.{verdict_text}
use Rattle.audit_desk.proofs.FoundLemmas.{journal-goes_on}
use Rattle.crewdesk_main.specs.Audit.{ends_as}
use Rattle.crewdesk_main.specs.Lines.{HasFewLines}
use Rattle.crewdesk_main.specs.Records.{StartsWith, HasNoEntry, KeepsJournal, IsUnread, TellsLine}
use Rattle.day_replay.proofs.InputLemmas.{WasRead-TookAll}

-- the tours of so many entries are kept, which were read of a text, and this is left of it
pub record HasRead (records : DutyRecords) (text left : List ℕ) (count : ℕ) : Type 0 where
  pub history : History
  pub starts : StartsWith text history left
  pub keeps : Keeps records history
  pub count_is : count ≡ length history.entries

-- with the next line that is one more
pub HasRead-more : (records later : DutyRecords) (text left line behind : List ℕ) (count : ℕ) (e : EntryValue) (has : HasRead records text left count)
    → left ≡ line ++ behind → IsEntryLine line e → Keeps later (with_entry has.history e) → HasRead later text behind (count + 1)
HasRead-more records later text left line behind count e has parts is keeps = record {
  history = with_entry has.history e;
  starts = record {
    valid = has.starts.valid;
    fits = All-append Fits has.history.entries (e ∷ []) has.starts.fits (All-cons Fits e [] is.valid (All-nil Fits));
    parts = journal-goes_on has.history e text left line behind has.starts.parts parts is.line_is;
  };
  keeps = keeps;
  count_is = omega (arith, has.count_is, length-append has.history.entries (e ∷ []));
}

-- a next line that is no entry's is told
pub HasNoEntry-next : (records : DutyRecords) (text left line behind : List ℕ) (count number : ℕ) (has : HasRead records text left count) → left ≢ []
    → ((e : EntryValue) → Fits e → IsLine (entry_line e)) → ((front later : List ℕ) → IsLine front → left ≡ front ++ later → (line ≡ front) × (behind ≡ later))
    → ((e : EntryValue) → IsEntryLine line e → ⊥) → number ≡ count + 2 → HasNoEntry text number
HasNoEntry-next records text left line behind count number has some ends first none is = record {
  history = has.history;
  rest = left;
  starts = has.starts;
  some = some;
  none = λ e later fits begins. none e (record { valid = fits; line_is = (first (entry_line e) later (ends e fits) begins).0 });
  line_is = omega (arith, is, has.count_is);
}

-- with none left all is read
pub KeepsJournal-all : (records : DutyRecords) (text left : List ℕ) (count : ℕ) → HasRead records text left count → true ≡ (length left == 0) → KeepsJournal records text
KeepsJournal-all records text [] count has e = record { history = has.history; starts = has.starts; keeps = has.keeps }
KeepsJournal-all records text (b ∷ left) count has e = absurd (grind (arith, nat_tests, e))

-- what is kept of all that is behind an opening's line is kept of the text
pub KeepsJournal-opened : (result : Result DutyRecords Verdict) (o : OpeningValue) (text line behind : List ℕ) → IsOpening o → text ≡ line ++ behind → line ≡ opening_line o
    → IfOk result (λ records. (p : OpeningValue) → IsOpening p → KeepsJournal records (journal (opened p) ++ behind)) → IfOk result (λ records. KeepsJournal records text)
KeepsJournal-opened (Ok records) o text line behind valid parts is keeps =
    subst (KeepsJournal records) (sym (parts ∙ ap (λ l. l ++ behind) (is ∙ sym (append-nil (opening_line o))))) (keeps o valid)
KeepsJournal-opened (Err e) o text line behind valid parts is keeps = tt

-- a run that ends as unreadable does so for a line that is no entry's
pub TellsLine-told : (found : Verdict) (result : Status) (before after : Option (List ℕ)) (bytes seen : List ℕ) (Writes : List ℕ → Type 0)
    → TookAll before after bytes → length bytes ≤ JOURNAL_BYTES → HasFewLines bytes → seen ≡ bytes → (found ≢ verdict.NoMemory → IsUnread seen found)
    → ((result ≡ ends_as found) ⊎ ((result ≡ NoMemory) ⊎ ((ends_as found ≡ Fine) × (result ≡ WriteFault)))) → result ≡ Unreadable → Writes (verdict_text found)
    → TellsLine before after Writes
TellsLine-told (verdict.Unreadable line) result before after bytes seen Writes took within few same unread only ends written = record {
  line = line;
  read = WasRead-TookAll JOURNAL_BYTES before after bytes (λ b. HasFewLines b × HasNoEntry b line) took within (few, subst (λ b. HasNoEntry b line) same (unread (λ e. let e = e in cc)));
  written = written;
}
TellsLine-told (verdict.Legal count) result before after bytes seen Writes took within few same unread only ends written = absurd (unread (λ e. let e = e in cc))
TellsLine-told (verdict.Wrong line was right) result before after bytes seen Writes took within few same unread only ends written = absurd (unread (λ e. let e = e in cc))
TellsLine-told verdict.NoOpening result before after bytes seen Writes took within few same unread only ends written = absurd (other only)
  where
    other : (result ≡ NoOpening) ⊎ ((result ≡ NoMemory) ⊎ ((NoOpening ≡ Fine) × (result ≡ WriteFault))) → ⊥
    other (inl is) = let e = sym is ∙ ends in cc
    other (inr (inl is)) = let e = sym is ∙ ends in cc
    other (inr (inr both)) = let e = sym both.1 ∙ ends in cc
TellsLine-told verdict.NoMemory result before after bytes seen Writes took within few same unread only ends written = absurd (other only)
  where
    other : (result ≡ NoMemory) ⊎ ((result ≡ NoMemory) ⊎ ((NoMemory ≡ Fine) × (result ≡ WriteFault))) → ⊥
    other (inl is) = let e = sym is ∙ ends in cc
    other (inr (inl is)) = let e = sym is ∙ ends in cc
    other (inr (inr both)) = let e = sym both.1 ∙ ends in cc
