-- What is said of bytes that were taken whole.
use Rattle.std.proofs.Common.{◌≡◌, ◌⊎◌, inl, inr, ℕ, ◌+◌, ◌^◌, ◌<◌, ◌≤◌, Bor, IfSome, Option, List, length, ap, sym, subst, arith}
use Rattle.std.specs.List.{All}
use Rattle.desk_io.specs.Input.{TookAll}
use Rattle.desk_io.specs.declared.status.Status.{Status}
use Rattle.desk_io.specs.declared.status.Status.TheVariants.{Fine, WriteFault, NoMemory}
use Rattle.desk_model.specs.statements.Opening.{OpeningValue, IsOpening}
use Rattle.desk_model.specs.statements.Statement.{StatedValue}
use Rattle.desk_model.specs.statements.Entry.{EntryValue}
use Rattle.desk_model.specs.histories.History.{History, opened}
use Rattle.desk_model.specs.histories.Legal.{next}
use Rattle.std.proofs.lemmas.List.{length-map}
use Rattle.desk_model.specs.texts.StatedTexts.{stated_fields}
use Rattle.command_parser.specs.CommandRecords.{HasRead}
use Rattle.command_parser.specs.declared.command_records.CommandRecords.{CommandRecords}
use Rattle.command_parser.specs.declared.limits.TheConstants.{COMMAND_LIMIT, RECORD_LIMIT}
use Rattle.line_writer.specs.Line.{wrong_line}
use Rattle.day_replay.specs.declared.day_input.TheConstants.{DAY_BYTES}
use Rattle.command_parser.specs.declared.day_fault.DayFault.{DayFault}
use Rattle.command_parser.specs.declared.day_fault.DayFault.TheVariants as fault
use Rattle.command_parser.specs.DayFile.{IsDayFile, IsSomeDayFile, HasUnreadable, IsUnreadable, HasFault}
use Rattle.desk_model.specs.statements.Fits.{IsStated}
use Rattle.command_parser.specs.declared.day_file.DayFile.{DayFile}
use Rattle.day_replay.specs.Ends.{WasRead, Tells}
use Rattle.command_parser.specs.Spelled.{SpellsStated}
use Rattle.day_replay.specs.FromDay.{IsMade, WasMade, IsTextOf}
use Rattle.day_replay.specs.Replay.{IsReplay, Replays, FindsWrong, EndsByTheDay, day_history}
use Rattle.day_replay.proofs.HistoryLemmas.{goes_on-length}
use Rattle.day_replay.proofs.InputLemmas.{WasRead-TookAll, TookAll-told}
use Rattle.command_parser.proofs.DayLemmas.{HasFault-one, IsDayFile-faultless}

-- a day file has fewer commands than records
pub IsDayFile-few : (bytes : List ℕ) (o : OpeningValue) (commands : List StatedValue) → IsDayFile bytes o commands → length commands < RECORD_LIMIT
IsDayFile-few bytes o commands day =
    omega (arith, day.opened.few, ap length day.opened.parts, ap length day.states.fields, length-map commands stated_fields)

-- what was made of a day file that was taken whole
pub WasMade-TookAll : (before after : Option (List ℕ)) (bytes seen : List ℕ) (Is : OpeningValue → List StatedValue → Type 0)
    → TookAll before after bytes → length bytes ≤ DAY_BYTES → seen ≡ bytes → IsMade seen Is → WasMade before after Is
WasMade-TookAll before after bytes seen Is took within same made = record {
  opening = made.opening;
  commands = made.commands;
  read = WasRead-TookAll DAY_BYTES before after bytes (λ b. IsDayFile b made.opening made.commands) took within (subst (λ b. IsDayFile b made.opening made.commands) same made.day);
  valid = made.day.opened.opening.valid;
  stated = made.day.states.valid;
  few = IsDayFile-few seen made.opening made.commands made.day;
  is = made.is;
}

-- the day file itself was made, and has that opening and those commands
pub record IsWhole (before after : Option (List ℕ)) (day : DayFile) : Type 0 where
  pub read : WasRead DAY_BYTES before after (λ bytes. IsDayFile bytes day.opening day.commands.items)
  pub valid : IsOpening day.opening
  pub stated : All IsStated day.commands.items
  pub few : length day.commands.items < RECORD_LIMIT

pub WasMade-day : (before after : Option (List ℕ)) (day : DayFile) → WasMade before after (λ o commands. (day.opening ≡ o) × (day.commands.items ≡ commands)) → IsWhole before after day
WasMade-day before after day made =
    let opening = sym made.is.0 in
    let commands = sym made.is.1 in
    record {
      read = rw (made.is.0, made.is.1) made.read;
      valid = rw made.is.0 made.valid;
      stated = rw made.is.1 made.stated;
      few = rw made.is.1 made.few;
    }

-- a day file was taken, and this was done with this text of its replay's history
pub Replays-day : (before after : Option (List ℕ)) (o : OpeningValue) (commands : List StatedValue) (text : History → List ℕ) (Writes : List ℕ → Type 0)
    → IsOpening o → WasRead DAY_BYTES before after (λ bytes. IsDayFile bytes o commands) → IsReplay o commands (day_history o commands)
    → Writes (text (day_history o commands))
    → Replays before after text Writes
Replays-day before after o commands text Writes valid read replay written = record {
  opening = o;
  valid = valid;
  commands = commands;
  read = read;
  history = day_history o commands;
  replay = replay;
  written = written;
}

-- what was made of a day file by its replay, and this was done with the text of its history
pub Replays-made : (before after : Option (List ℕ)) (text : History → List ℕ) (Writes : List ℕ → Type 0) (Is : OpeningValue → List StatedValue → Type 0)
    (made : WasMade before after Is) → IsReplay made.opening made.commands (day_history made.opening made.commands) → Writes (text (day_history made.opening made.commands))
    → Replays before after text Writes
Replays-made before after text Writes Is made replay written =
    Replays-day before after made.opening made.commands text Writes made.valid made.read replay written

-- a day file with a wrong field was taken whole and read, and this was done with the line that says which
pub FindsWrong-TookAll : (before after : Option (List ℕ)) (bytes seen : List ℕ) (record_no field : ℕ) (Writes : List ℕ → Type 0)
    → TookAll before after bytes → length bytes ≤ DAY_BYTES → seen ≡ bytes → HasUnreadable seen record_no field → Writes (wrong_line record_no field)
    → FindsWrong before after Writes
FindsWrong-TookAll before after bytes seen record_no field Writes took within same wrong written = record {
  record_no = record_no;
  field = field;
  read = WasRead-TookAll DAY_BYTES before after bytes (λ b. HasUnreadable b record_no field) took within (subst (λ b. HasUnreadable b record_no field) same wrong);
  written = written;
}

-- ---- of bytes that were taken whole the source told one fault at most

pub one-cause : (before after : Option (List ℕ)) (bytes seen : List ℕ) (told cause : DayFault) → TookAll before after bytes → seen ≡ bytes → HasFault seen told
    → Tells DAY_BYTES before (λ b. HasFault b cause) → told ≡ cause
one-cause before after bytes seen told cause took same has tells =
    let is = TookAll-told before after bytes tells.bytes took tells.told in
    HasFault-one bytes told cause (subst (λ b. HasFault b told) same has) (subst (λ b. HasFault b cause) is tells.has)

-- and none where they are a day file
pub day-cause : (before after : Option (List ℕ)) (bytes seen : List ℕ) (o : OpeningValue) (commands : List StatedValue) (cause : DayFault)
    → TookAll before after bytes → seen ≡ bytes → IsDayFile seen o commands → Tells DAY_BYTES before (λ b. HasFault b cause) → ⊥
day-cause before after bytes seen o commands cause took same day tells =
    let is = TookAll-told before after bytes tells.bytes took tells.told in
    IsDayFile-faultless bytes o commands cause (subst (λ b. IsDayFile b o commands) same day) (subst (λ b. HasFault b cause) is tells.has)

pub cause-day : (before after : Option (List ℕ)) (bytes seen : List ℕ) (cause : DayFault) → TookAll before after bytes → seen ≡ bytes → HasFault seen cause
    → Tells DAY_BYTES before IsSomeDayFile → ⊥
cause-day before after bytes seen cause took same has tells =
    let is = TookAll-told before after bytes tells.bytes took tells.told in
    IsDayFile-faultless bytes tells.has.opening tells.has.commands cause (subst (λ b. IsDayFile b tells.has.opening tells.has.commands) is tells.has.day) (subst (λ b. HasFault b cause) same has)

-- a record that states no command is one of the faults
pub unreadable-cause : (left : Option (List ℕ)) (tells : Tells DAY_BYTES left IsUnreadable) → Tells DAY_BYTES left (λ b. HasFault b (fault.Unreadable tells.has.record_no tells.has.field))
unreadable-cause left tells = record { bytes = tells.bytes; told = tells.told; within = tells.within; has = tells.has.has }

-- what is so of a run that took a day file stays so of one that goes on with it
pub EndsByTheDay-day : (left : Option (List ℕ)) (result : Status) → (result ≡ Fine) ⊎ ((result ≡ WriteFault) ⊎ (result ≡ NoMemory)) → EndsByTheDay Fine left
    → EndsByTheDay result left
EndsByTheDay-day left result either ends = record {
  more_bytes = λ tells. absurd (let same = ends.more_bytes tells (λ e. cc) (λ e. cc) in cc);
  too_many = λ tells. absurd (let same = ends.too_many tells (λ e. cc) (λ e. cc) in cc);
  no_opening = λ tells. absurd (let same = ends.no_opening tells (λ e. cc) (λ e. cc) in cc);
  unreadable = λ tells. absurd (let same = ends.unreadable tells (λ e. cc) (λ e. cc) in cc);
  day = λ tells written read memory. elim either [
    | inl fine ↦ fine
    | inr (inl fault) ↦ absurd (written fault)
    | inr (inr none) ↦ absurd (memory none)
  ];
}

-- ---- a day file that is replayed as it is read

-- the records so far state these commands, and the desk stands for the history of these, of which this was kept
pub record HasReplayed (rest : List (List (List ℕ))) (o : OpeningValue) (records : CommandRecords) (Stands Kept : History → Type 0) : Type 0 where
  pub commands : List StatedValue
  pub read : HasRead 2 COMMAND_LIMIT rest commands records
  pub stands : Stands (day_history o commands)
  pub kept : Kept (day_history o commands)

-- so many entries may be counted, and one more
pub HasReplayed-few : (rest : List (List (List ℕ))) (o : OpeningValue) (commands : List StatedValue) (records : CommandRecords) → HasRead 2 COMMAND_LIMIT rest commands records
    → length (day_history o commands).entries + 1 < 2 ^ 64
HasReplayed-few rest o commands records read =
    omega (arith, read.room, ap length read.states.fields, length-map commands stated_fields, goes_on-length (opened o) commands)

-- the text of a record's statement is that of the statement of its entry
pub IsTextOf-next : (h : History) (s : StatedValue) (line : Option (Bor (List ℕ))) (e : EntryValue) → e ≡ next h 0 s → IfSome line (λ text. SpellsStated text.now s)
    → IsTextOf line e
unfolding next
IsTextOf-next h s line e answer spelled = subst (λ x. IfSome line (λ text. SpellsStated text.now x)) (sym (ap (λ x. x.stated) answer)) spelled

-- and it is caller 0 that states it
pub caller-next : (h : History) (s : StatedValue) (e : EntryValue) → e ≡ next h 0 s → e.caller ≡ 0
unfolding next
caller-next h s e answer = ap (λ x. x.caller) answer
