-- The texts of replies.
use Rattle.std.specs.Prelude.{ℕ, List, ◌∷◌, ◌++◌, codes, decimal}
use Rattle.desk_base.specs.Minute.{minute_text}
use Rattle.duty_events.specs.declared.stage.Stage.{Stage}
use Rattle.duty_events.specs.declared.stage.Stage.TheVariants as stage
use Rattle.duty_events.specs.declared.event_fault.EventFault.{EventFault}
use Rattle.duty_events.specs.declared.event_fault.EventFault.TheVariants as fault
use Rattle.desk_model.specs.declared.reply.Reply.{Reply}
use Rattle.desk_model.specs.declared.reply.Reply.TheVariants as reply
use Rattle.desk_model.specs.declared.vac_state.VacState.{VacState}
use Rattle.desk_model.specs.declared.vac_state.VacState.TheVariants as state
use Rattle.desk_model.specs.texts.StatedTexts.{kind_text}
use Rattle.desk_model.specs.texts.BarTexts.{late_text, bar_text}

-- how a vacancy stands
abbrev pub state_text : VacState → List ℕ
state_text state.Vacant = codes "vacant"
state_text (state.OnOffer p) = codes "offered " ++ decimal p
state_text (state.Taken p) = codes "taken " ++ decimal p
state_text (state.Begun p) = codes "begun " ++ decimal p
state_text state.Annulled = codes "annulled"

-- where a person stands in a tour of duty; of an interim its kind, when it began and its place
abbrev pub stage_text : Stage → List ℕ
stage_text stage.Off = codes "off"
stage_text stage.Riding = codes "riding"
stage_text stage.Duty = codes "duty"
stage_text (stage.Interim kind since place) = codes "interim " ++ kind_text kind ++ 32 ∷ minute_text since ++ 32 ∷ place
stage_text stage.Waiting = codes "waiting"
stage_text stage.RidingHome = codes "riding home"

-- why an event may not follow those before it
abbrev pub fault_text : EventFault → List ℕ
fault_text (fault.WrongStage s) = codes "wrong stage " ++ stage_text s
fault_text (fault.Behind last) = codes "behind " ++ minute_text last
fault_text (fault.InterimTooLong minutes) = codes "interim too long " ++ decimal minutes
fault_text (fault.OtherPlace place) = codes "other place " ++ place

-- what the desk answers
abbrev pub reply_text : Reply → List ℕ
reply_text reply.Done = codes "done"
reply_text (reply.Offered person board position) = codes "offered " ++ decimal person ++ 32 ∷ board ++ 32 ∷ decimal position
reply_text (reply.Unfilled listed) = codes "unfilled " ++ decimal listed
reply_text (reply.Hours used capped) = codes "hours " ++ decimal used ++ 32 ∷ decimal capped
reply_text (reply.Seen person) = codes "seen " ++ decimal person
reply_text (reply.NoOne count) = codes "no one " ++ decimal count
reply_text (reply.State how) = codes "state " ++ state_text how
reply_text (reply.RunAround person) = codes "run around " ++ decimal person
reply_text reply.NotListed = codes "not listed"
reply_text (reply.Denied bar) = codes "denied " ++ bar_text bar
reply_text (reply.Clear board position) = codes "clear " ++ board ++ 32 ∷ decimal position
reply_text (reply.Frozen vac) = codes "frozen " ++ decimal vac
reply_text reply.PastClosed = codes "past closed"
reply_text (reply.EventAhead moment) = codes "event ahead " ++ minute_text moment
reply_text (reply.Event f) = fault_text f
reply_text reply.OutsideWindow = codes "outside window"
reply_text reply.Used = codes "used"
reply_text reply.Already = codes "already"
reply_text reply.PersonsFull = codes "persons full"
reply_text reply.BoardsFull = codes "boards full"
reply_text reply.UnknownPerson = codes "unknown person"
reply_text (reply.UnknownBoard board) = codes "unknown board " ++ board
reply_text reply.ListsFull = codes "lists full"
reply_text reply.MembersFull = codes "members full"
reply_text reply.VacanciesFull = codes "vacancies full"
reply_text (reply.BadChain board) = codes "bad chain " ++ board
reply_text reply.PlanTooLong = codes "plan too long 21103(a)(2)"
reply_text reply.ReliefTooLong = codes "plan too long 21103(d)"
reply_text reply.OtherEdition = codes "not in edition 1"
reply_text (reply.ReportPast report) = codes "report past " ++ minute_text report
reply_text reply.UnknownVacancy = codes "unknown vacancy"
reply_text (reply.Closed how) = codes "closed " ++ state_text how
reply_text (reply.OfferOpen person) = codes "offer open " ++ decimal person
reply_text (reply.Lapsed report) = codes "lapsed " ++ late_text report
reply_text reply.NoOffer = codes "no offer"
reply_text (reply.EarlyNoAnswer deadline) = codes "early " ++ late_text deadline
reply_text reply.NotAssigned = codes "not assigned"
