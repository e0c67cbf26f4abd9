-- What a run does whose words are a form.
use Rattle.std.specs.Prelude.{◌≡◌, ◌≢◌, ◌⊎◌, ℕ, ◌≤◌, false, Option, List}
use Rattle.std.specs.Io.KnownBytes.{Appends, Keeps}
use Rattle.desk_io.specs.Faults.{Rose}
use Rattle.desk_io.specs.Giving.{AddsFront}
use Rattle.desk_io.specs.declared.status.Status.{Status}
use Rattle.desk_io.specs.declared.status.Status.TheVariants.{Usage, Fine, ReadFault, WriteFault, NoMemory, AuditWrong, Unreadable}
use Rattle.line_writer.specs.Tally.{tally_text}
use Rattle.day_gen.specs.Day.{generated_day}
use Rattle.crewdesk_main.specs.declared.form.Form.{Form}
use Rattle.crewdesk_main.specs.declared.form.Form.TheVariants as form
use Rattle.crewdesk_main.specs.Texts.{EndsPrint, help_text, version_text}
use Rattle.day_replay.specs.Ends.{writes}
use Rattle.day_replay.specs.Replay.{EndsDay, Replays, text_of}
use Rattle.crewdesk_main.specs.Audit.{EndsAudit}
use Rattle.crewdesk_main.specs.Callers.{ServesNames}
use Rattle.crewdesk_main.specs.Continue.{EndsContinue}
use Rattle.crewdesk_main.specs.Records.{EndsTelling, tours_text}

-- a run that ended so printed this text, or had a write fault, and printed a front of it; or memory was wanting
pub record EndsGen (result : Status) (text : List ℕ) (held held' : Option (List ℕ)) (given given' : ℕ) : Type 0 where
  pub fine : result ≡ Fine → Appends held held' text
  pub write_fault : result ≡ WriteFault → AddsFront held held' text
  pub write_cause : result ≡ WriteFault → Rose given given'
  pub only : (result ≡ Fine) ⊎ ((result ≡ WriteFault) ⊎ (result ≡ NoMemory))

-- a run that ended so wrote nothing but where its status says so, and its source and sink counted faults only then: what the sink told
-- before and after, and how many faults each counted
pub record KeepsCounts (result : Status) (asked asked' : ℕ) (held held' : Option (List ℕ)) (given given' : ℕ) : Type 0 where
  pub silent : writes result ≡ false → Keeps held held'
  pub read_count : result ≢ ReadFault → asked' ≡ asked
  pub write_count : result ≢ WriteFault → result ≢ AuditWrong → result ≢ Unreadable → given' ≡ given
  pub source_faults_grow : asked ≤ asked'
  pub sink_faults_grow : given ≤ given'

-- a run of the form that ended so did this: what its source and sink told before and after, and how many faults they counted
abbrev pub Ends : Form → Status → Option (List ℕ) → Option (List ℕ) → ℕ → ℕ → Option (List ℕ) → Option (List ℕ) → ℕ → ℕ → Type 0
Ends form.Help result left left' asked asked' held held' given given' = EndsPrint result help_text held held' given given'
Ends form.Version result left left' asked asked' held held' given given' = EndsPrint result version_text held held' given given'
Ends (form.Day how) result left left' asked asked' held held' given given' = EndsDay result (Replays left left' (text_of how)) left left' asked asked' held held' given given'
Ends (form.Tours how) result left left' asked asked' held held' given given' = EndsTelling result (tours_text how) left left' asked asked' held held' given given'
Ends (form.Gen commands number edition) result left left' asked asked' held held' given given' =
    EndsGen result (tally_text (generated_day edition number commands)) held held' given given'
Ends form.Audit result left left' asked asked' held held' given given' = EndsAudit result left left' asked asked' held held' given given'
Ends form.Continue result left left' asked asked' held held' given given' = EndsContinue result left left' asked asked' held held' given given'
Ends (form.Serve how callers) result left left' asked asked' held held' given given' =
    EndsDay result (ServesNames how callers left left') left left' asked asked' held held' given given'
Ends (form.Keep callers guard) result left left' asked asked' held held' given given' = result ≢ Usage
