-- Whom a command enrols, with which home, and what it tells of what somebody did.
use Rattle.std.specs.Prelude.{ℕ, Option, None, Some, List}
use Rattle.duty_events.specs.declared.event.Event.{Event}
use Rattle.desk_model.specs.declared.command.Cmd.{Cmd}
use Rattle.desk_model.specs.declared.command.Cmd.TheVariants as cmd

-- the home of whom it enrols
abbrev pub home_of : Cmd → Option (List ℕ)
home_of (cmd.Enrol person craft home quals) = Some home
home_of other = None

-- of whom it tells an event, and which
abbrev pub teller : Cmd → Option ℕ
teller (cmd.Past person event) = Some person
teller (cmd.Happened person event) = Some person
teller other = None

abbrev pub told_event : Cmd → Option Event
told_event (cmd.Past person event) = Some event
told_event (cmd.Happened person event) = Some event
told_event other = None
