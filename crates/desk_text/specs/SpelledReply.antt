-- What texts of replies, and of what they keep, say.
use Rattle.std.specs.Prelude.{◌≡◌, ◌≢◌, ℕ, List, ◌++◌}
use Rattle.duty_events.specs.declared.stage.Stage.{Stage}
use Rattle.duty_events.specs.declared.event_fault.EventFault.{EventFault}
use Rattle.denial_rules.specs.declared.bar.Bar.{Bar}
use Rattle.denial_rules.specs.Bar.{FitsBar}
use Rattle.desk_model.specs.declared.reply.Reply.{Reply}
use Rattle.desk_model.specs.declared.vac_state.VacState.{VacState}
use Rattle.desk_model.specs.texts.BarTexts.{bar_text}
use Rattle.desk_model.specs.statements.Fits.{FitsState, FitsStage, FitsFault, FitsReply}
use Rattle.desk_model.specs.texts.ReplyTexts.{state_text, stage_text, fault_text, reply_text}
use Rattle.desk_text.specs.declared.reply_head.ReplyHead.{ReplyHead}
use Rattle.desk_text.specs.declared.bar_head.BarHead.{BarHead}
use Rattle.desk_text.specs.Heads.{reply_head_text, bar_head_text}

-- the text is that of a vacancy that stands so
pub record SpellsState (text : List ℕ) (how : VacState) : Type 0 where
  pub valid : FitsState how
  pub text_is : text ≡ state_text how

-- the text is this stage's
pub record SpellsStage (text : List ℕ) (s : Stage) : Type 0 where
  pub valid : FitsStage s
  pub text_is : text ≡ stage_text s

-- the text is that of this fault of an event
pub record SpellsFault (text : List ℕ) (f : EventFault) : Type 0 where
  pub valid : FitsFault f
  pub text_is : text ≡ fault_text f

-- the text is this bar's
pub record SpellsBar (text : List ℕ) (bar : Bar) : Type 0 where
  pub valid : FitsBar bar
  pub text_is : text ≡ bar_text bar

-- the text is this reply's
pub record SpellsReply (text : List ℕ) (r : Reply) : Type 0 where
  pub valid : FitsReply r
  pub text_is : text ≡ reply_text r

-- the head, and behind it this text, are this bar's
abbrev pub TellsBar : BarHead → List ℕ → Bar → Type 0
TellsBar head rest bar = SpellsBar (bar_head_text head ++ rest) bar

-- the head, and behind it this text, are this reply's
abbrev pub TellsReply : ReplyHead → List ℕ → Reply → Type 0
TellsReply head rest r = SpellsReply (reply_head_text head ++ rest) r

-- the text begins with no head of a bar
abbrev pub HasNoBarHead : List ℕ → Type 0
HasNoBarHead text = (head : BarHead) (rest : List ℕ) → text ≢ bar_head_text head ++ rest

-- the text begins with no head of a reply, and is that of no event's fault
pub record HasNoReplyHead (text : List ℕ) : Type 0 where
  pub head : (head : ReplyHead) (rest : List ℕ) → text ≢ reply_head_text head ++ rest
  pub fault : (f : EventFault) → ¬ SpellsFault text f
