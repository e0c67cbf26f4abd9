-- The ranges of what is stated and of what is answered.
use Rattle.std.specs.Prelude.{◌<◌, ◌≤◌, ◌^◌, ⊤}
use Rattle.desk_model.specs.declared.limits.TheConstants.{POSITION_LIMIT}
use Rattle.desk_base.specs.declared.minute.TheConstants.{YEARS_BEGIN}
use Rattle.desk_base.specs.Number.{IsNumber}
use Rattle.desk_base.specs.Code.{IsCode}
use Rattle.desk_base.specs.Minute.{IsInYears}
use Rattle.desk_base.specs.Month.{IsMonthInYears}
use Rattle.duty_events.specs.declared.event.Event.{Event}
use Rattle.duty_events.specs.declared.event.Event.TheVariants as event
use Rattle.duty_events.specs.declared.stage.Stage.{Stage}
use Rattle.duty_events.specs.declared.stage.Stage.TheVariants as stage
use Rattle.duty_events.specs.declared.event_fault.EventFault.{EventFault}
use Rattle.duty_events.specs.declared.event_fault.EventFault.TheVariants as fault
use Rattle.duty_events.specs.Allowed.{first_minute}
use Rattle.denial_rules.specs.Bar.{FitsBar}
use Rattle.desk_model.specs.declared.limits.TheConstants.{LAST_CALLER}
use Rattle.desk_model.specs.declared.command.Cmd.{Cmd}
use Rattle.desk_model.specs.declared.command.Cmd.TheVariants as cmd
use Rattle.desk_model.specs.declared.vac_state.VacState.{VacState}
use Rattle.desk_model.specs.declared.vac_state.VacState.TheVariants as state
use Rattle.desk_model.specs.declared.reply.Reply.{Reply}
use Rattle.desk_model.specs.declared.reply.Reply.TheVariants as reply
use Rattle.desk_model.specs.statements.Chain.{IsChain}
use Rattle.desk_model.specs.statements.Job.{JobValue, IsPlan}
use Rattle.desk_model.specs.statements.Statement.{StatedValue}
use Rattle.desk_model.specs.statements.Entry.{EntryValue}

-- ---- what is stated

-- each value of a job has its form
pub record IsJob (job : JobValue) : Type 0 where
  pub vac : IsNumber job.vac
  pub quals : job.quals < 2 ^ 64
  pub place : IsCode job.place
  pub plan : IsPlan job.report job.duty job.limbo
  pub chain : IsChain job.chain

-- each value of an event has its form: its minutes lie in the years 2000 to 2099
abbrev pub IsEvent : Event → Type 0
IsEvent (event.Interim t kind place) = IsInYears t × IsCode place
IsEvent (event.Final t place) = IsInYears t × IsCode place
IsEvent (event.Other span place) = IsInYears span.from × IsInYears span.to × (span.from < span.to) × IsCode place
IsEvent e = IsInYears (first_minute e)

-- each value of a command has its form
abbrev pub IsCommand : Cmd → Type 0
IsCommand (cmd.Enrol person craft home quals) = IsNumber person × IsCode home × (quals < 2 ^ 64)
IsCommand (cmd.Board board extra place) = IsCode board × IsCode place
IsCommand (cmd.List person board) = IsNumber person × IsCode board
IsCommand (cmd.Unlist person board) = IsNumber person × IsCode board
IsCommand (cmd.MarkOff person) = IsNumber person
IsCommand (cmd.MarkOn person) = IsNumber person
IsCommand (cmd.Qualify person quals) = IsNumber person × (quals < 2 ^ 64)
IsCommand (cmd.Past person event) = IsNumber person × IsEvent event
IsCommand (cmd.Happened person event) = IsNumber person × IsEvent event
IsCommand (cmd.Vacancy job) = IsJob job
IsCommand (cmd.Next vac) = IsNumber vac
IsCommand (cmd.Offer vac person) = IsNumber vac × IsNumber person
IsCommand (cmd.Accept vac person) = IsNumber vac × IsNumber person
IsCommand (cmd.Decline vac person) = IsNumber vac × IsNumber person
IsCommand (cmd.NoAnswer vac person) = IsNumber vac × IsNumber person
IsCommand (cmd.Withdraw vac person) = IsNumber vac × IsNumber person
IsCommand (cmd.Annul vac) = IsNumber vac
IsCommand (cmd.Drop person) = IsNumber person
IsCommand (cmd.Hours person month) = IsNumber person × IsMonthInYears month
IsCommand (cmd.At board place) = IsCode board × (1 ≤ place) × (place ≤ POSITION_LIMIT)
IsCommand (cmd.Explain vac person) = IsNumber vac × IsNumber person
IsCommand (cmd.Vac vac) = IsNumber vac

-- and so has the minute at which it was stated
pub record IsStated (s : StatedValue) : Type 0 where
  pub minute : IsInYears s.minute
  pub cmd : IsCommand s.cmd

-- ---- what is answered

-- how a vacancy stands: to whom it is on offer, or who has it
abbrev pub FitsState : VacState → Type 0
FitsState (state.OnOffer person) = IsNumber person
FitsState (state.Taken person) = IsNumber person
FitsState (state.Begun person) = IsNumber person
FitsState other = ⊤

-- the stage of someone in an interim: since when, and where
abbrev pub FitsStage : Stage → Type 0
FitsStage (stage.Interim kind since place) = IsInYears since × IsCode place
FitsStage other = ⊤

-- why an event is not allowed
abbrev pub FitsFault : EventFault → Type 0
FitsFault (fault.WrongStage s) = FitsStage s
FitsFault (fault.Behind last) = IsInYears last
FitsFault (fault.InterimTooLong minutes) = minutes < 2 ^ 32
FitsFault (fault.OtherPlace place) = IsCode place

-- each value of a reply is in its range: positions are 1 to 9,999, and the report of one that lapsed and a deadline, as the
-- minute that a bar keeps, may lie behind the year 2099
abbrev pub FitsReply : Reply → Type 0
FitsReply (reply.Offered person board position) = IsNumber person × IsCode board × (1 ≤ position) × (position ≤ POSITION_LIMIT)
FitsReply (reply.Clear board position) = IsCode board × (1 ≤ position) × (position ≤ POSITION_LIMIT)
FitsReply (reply.Unfilled listed) = listed < 2 ^ 16
FitsReply (reply.Seen person) = IsNumber person
FitsReply (reply.NoOne count) = count < 2 ^ 16
FitsReply (reply.State how) = FitsState how
FitsReply (reply.RunAround person) = IsNumber person
FitsReply (reply.Hours used capped) = (used < 2 ^ 32) × (capped < 2 ^ 32)
FitsReply (reply.Denied bar) = FitsBar bar
FitsReply (reply.UnknownBoard board) = IsCode board
FitsReply (reply.Frozen vac) = IsNumber vac
FitsReply (reply.EventAhead moment) = IsInYears moment
FitsReply (reply.Event f) = FitsFault f
FitsReply (reply.BadChain board) = IsCode board
FitsReply (reply.ReportPast report) = IsInYears report
FitsReply (reply.Closed how) = FitsState how
FitsReply (reply.OfferOpen person) = IsNumber person
FitsReply (reply.Lapsed report) = (YEARS_BEGIN ≤ report) × (report < 2 ^ 28)
FitsReply (reply.EarlyNoAnswer deadline) = (YEARS_BEGIN ≤ deadline) × (deadline < 2 ^ 28)
FitsReply other = ⊤

-- each value of an entry is in its range, so that its line can be read again
pub record Fits (e : EntryValue) : Type 0 where
  pub caller : e.caller ≤ LAST_CALLER
  pub stated : IsStated e.stated
  pub moment : IsInYears e.moment
  pub reply : FitsReply e.reply
