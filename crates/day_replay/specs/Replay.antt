-- What a replay reads and writes.
use Rattle.std.specs.Prelude.{◌≡◌, ◌≢◌, ◌⊎◌, ℕ, ◌≤◌, false, Option, Result, Ok, Err, List, map}
use Rattle.desk_io.specs.declared.status.Status.{Status}
use Rattle.desk_io.specs.declared.status.Status.TheVariants.{Fine, Usage, ReadFault, WriteFault, TooLong, NoMemory, AuditWrong, NoOpening, Unreadable}
use Rattle.std.specs.Io.KnownBytes.{Appends, Keeps}
use Rattle.desk_io.specs.Faults.{Rose}
use Rattle.desk_io.specs.Giving.{AddsFront}
use Rattle.desk_io.specs.Input.{TookMore, TookFront}
use Rattle.desk_model.specs.statements.Opening.{OpeningValue, IsOpening}
use Rattle.desk_model.specs.statements.Statement.{StatedValue}
use Rattle.desk_model.specs.histories.History.{History, opened}
use Rattle.desk_model.specs.histories.Legal.{IsLegal, given, history_from}
use Rattle.desk_model.specs.texts.Journal.{journal}
use Rattle.line_writer.specs.Line.{wrong_line}
use Rattle.line_writer.specs.Tally.{tally_text}
use Rattle.command_parser.specs.DayFile.{IsDayFile, IsSomeDayFile, HasTooMany, HasNoOpening, HasUnreadable, IsUnreadable}
use Rattle.day_replay.specs.declared.day_form.DayForm.{DayForm}
use Rattle.day_replay.specs.declared.day_form.DayForm.TheVariants as form
use Rattle.day_replay.specs.declared.day_input.TheConstants.{DAY_BYTES}
use Rattle.day_replay.specs.Forecast.{forecast_text, when_text}
use Rattle.day_replay.specs.Ends.{WasRead, WritesOrFails, Tells, TellsMore, EndsAs, writes}

-- stated by caller 0, as a day file's commands are
abbrev pub by_the_day_file : StatedValue → ℕ × StatedValue
by_the_day_file s = (0, s)

-- a history that goes on with these commands, given by the day file
abbrev pub goes_on : History → List StatedValue → History
goes_on h commands = history_from h (map by_the_day_file commands)

-- that of a desk that was opened so and is given these commands by the day file
abbrev pub day_history : OpeningValue → List StatedValue → History
day_history o commands = goes_on (opened o) commands

-- a legal history of a desk that was opened so, whose entries have these commands in order, each once, with caller 0
pub record IsReplay (o : OpeningValue) (commands : List StatedValue) (h : History) : Type 0 where
  pub opening : h.opening ≡ o
  pub legal : IsLegal h
  pub given : map given h.entries ≡ map by_the_day_file commands

-- a day file was read, and this was done with the text of its replay's history
pub record Replays (before after : Option (List ℕ)) (text : History → List ℕ) (Writes : List ℕ → Type 0) : Type 0 where
  pub opening : OpeningValue
  pub valid : IsOpening opening
  pub commands : List StatedValue
  pub read : WasRead DAY_BYTES before after (λ bytes. IsDayFile bytes opening commands)
  pub history : History
  pub replay : IsReplay opening commands history
  pub written : Writes (text history)

-- what is written of a history: its journal or its tally; the journal of all entries but the last, and these as what would be answered;
-- or from when on nothing bars a person from a vacancy
abbrev pub text_of : DayForm → History → List ℕ
text_of form.Replay h = journal h
text_of form.Tally h = tally_text h
text_of (form.Forecast asked) h = forecast_text asked h
text_of (form.When vac person) h = when_text vac person h

-- a day file with a wrong field was read, and this was done with the line that says which
pub record FindsWrong (before after : Option (List ℕ)) (Writes : List ℕ → Type 0) : Type 0 where
  pub record_no : ℕ
  pub field : ℕ
  pub read : WasRead DAY_BYTES before after (λ bytes. HasUnreadable bytes record_no field)
  pub written : Writes (wrong_line record_no field)

-- which status comes where, by the bytes that the source tells
pub record EndsByTheDay (result : Status) (left : Option (List ℕ)) : Type 0 where
  pub more_bytes : TellsMore DAY_BYTES left → EndsAs result TooLong
  pub too_many : Tells DAY_BYTES left HasTooMany → EndsAs result TooLong
  pub no_opening : Tells DAY_BYTES left HasNoOpening → EndsAs result NoOpening
  pub unreadable : Tells DAY_BYTES left IsUnreadable → EndsAs result Unreadable
  pub day : Tells DAY_BYTES left IsSomeDayFile → result ≢ WriteFault → EndsAs result Fine

-- the ways to end where there is no day file
abbrev pub IsNoDay : Status → Type 0
IsNoDay status = (status ≡ ReadFault) ⊎ ((status ≡ TooLong) ⊎ ((status ≡ NoMemory) ⊎ ((status ≡ NoOpening) ⊎ (status ≡ Unreadable))))

-- how a run ends so far that takes a day file
abbrev pub taking_status : {A : Type 0} → Result A Status → Status
taking_status (Ok day) = Fine
taking_status (Err status) = status

-- how a run ends that reads a day file, and did this with what it wrote: what its source and sink told before and after, and how many
-- faults they counted. The line that says which field is wrong may be written where there is no day
pub record EndsDay (result : Status) (Done : (List ℕ → Type 0) → Type 0) (left left' : Option (List ℕ)) (asked asked' : ℕ) (held held' : Option (List ℕ)) (given given' : ℕ) : Type 0 where
  pub fine : result ≡ Fine → Done (Appends held held')
  pub write_fault : result ≡ WriteFault → Done (AddsFront held held')
  pub write_cause : result ≡ WriteFault → Rose given given'
  pub read_cause : result ≡ ReadFault → Rose asked asked'
  pub too_long : result ≡ TooLong → TookMore left left' DAY_BYTES ⊎ WasRead DAY_BYTES left left' HasTooMany
  pub not_too_long : result ≢ TooLong → TookFront left left' DAY_BYTES
  pub no_opening : result ≡ NoOpening → WasRead DAY_BYTES left left' HasNoOpening
  pub unreadable : result ≡ Unreadable → FindsWrong left left' (WritesOrFails held held' given given')
  pub not_wrong : result ≢ AuditWrong
  -- each of these comes where its cause is, unless memory or a fault is in the way
  pub by_the_day : result ≢ Usage → EndsByTheDay result left
  pub silent : writes result ≡ false → Keeps held held'
  pub read_count : result ≢ ReadFault → asked' ≡ asked
  pub write_count : result ≢ WriteFault → result ≢ Unreadable → given' ≡ given
  pub source_faults_grow : asked ≤ asked'
  pub sink_faults_grow : given ≤ given'
