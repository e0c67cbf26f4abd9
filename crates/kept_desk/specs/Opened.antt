-- What a desk that is opened on a device stands behind, and why one isn't.
use Rattle.std.specs.Prelude.{◌≡◌, ℕ, ◌+◌, ◌*◌, ◌≤◌, Bool, true, ⊤, Option, Result, Err, List, [], length}
use Rattle.audit_desk.specs.Found.{Begins, Finds}
use Rattle.board_window.specs.Walls.{FrontValue}
use Rattle.audit_desk.specs.declared.verdict.Verdict.{Verdict}
use Rattle.command_parser.specs.DayFile.{IsDayFile}
use Rattle.day_replay.specs.Ends.{WasRead}
use Rattle.day_replay.specs.Replay.{day_history}
use Rattle.day_replay.specs.declared.day_input.TheConstants.{DAY_BYTES}
use Rattle.desk_io.specs.declared.status.Status.{Status}
use Rattle.desk_model.specs.histories.History.{History}
use Rattle.desk_model.specs.histories.Legal.{IsLegal}
use Rattle.desk_model.specs.statements.Opening.{OpeningValue}
use Rattle.desk_model.specs.statements.Statement.{StatedValue}
use Rattle.desk_model.specs.texts.Journal.{journal}
use Rattle.journal_device.specs.Device.{Tells}
use Rattle.serve_desk.specs.declared.limits.TheConstants.{CALLS_PER_LINE}
use Rattle.kept_desk.specs.Walls.{HasAll}
use Rattle.kept_desk.specs.WholeLines.{IsWhole}
use Rattle.kept_desk.specs.declared.refused.Refused.{Refused}
use Rattle.kept_desk.specs.declared.refused.Refused.TheVariants as refused

-- the desk stands behind a legal history whose whole journal is kept, with a wall that has its entries, and has room for so many calls of each caller
pub record IsOpened (o : OpeningValue) (h : History) (wall : FrontValue) (most_entries : ℕ) (is_sound : Bool) (found : Option (List ℕ)) (quota callers : ℕ) : Type 0 where
  pub opening : o ≡ h.opening
  pub legal : IsLegal h
  pub shows : HasAll wall h
  pub sound : is_sound ≡ true
  pub kept : Tells found (journal h)
  pub calls : 1 ≤ quota
  pub most : quota ≤ CALLS_PER_LINE
  pub room : length h.entries + callers * quota ≤ most_entries

-- a day file was read, and the history is that of its commands
pub record BeginsDay (before after : Option (List ℕ)) (h : History) : Type 0 where
  pub opening : OpeningValue
  pub commands : List StatedValue
  pub read : WasRead DAY_BYTES before after (λ bytes. IsDayFile bytes opening commands)
  pub is : h ≡ day_history opening commands

-- the whole lines of the text are the journal of this history
pub record GoesOnBehind (text : List ℕ) (h : History) : Type 0 where
  pub front : List ℕ
  pub whole : IsWhole text front
  pub begins : Begins front h []

-- this is what an audit finds in the whole lines of the text
pub record FindsWhole (text : List ℕ) (verdict : Verdict) : Type 0 where
  pub front : List ℕ
  pub whole : IsWhole text front
  pub finds : Finds front verdict

-- it is refused with this status
abbrev pub IsEnded : {A D : Type 0} → Result A (Refused D) → Status → Type 0
IsEnded (Err (refused.Ended status)) this = status ≡ this
IsEnded other this = ⊥

-- of a refusal of this kind this holds
abbrev pub WhereEnded : {D : Type 0} → Refused D → (Status → Type 0) → Type 0
WhereEnded (refused.Ended status) P = P status
WhereEnded other P = ⊤

abbrev pub WhereFound : {D : Type 0} → Refused D → (Verdict → Type 0) → Type 0
WhereFound (refused.Found verdict) P = P verdict
WhereFound other P = ⊤

abbrev pub WhereFault : {D : Type 0} → Refused D → (D → Type 0) → Type 0
WhereFault (refused.Fault device) P = P device
WhereFault other P = ⊤
