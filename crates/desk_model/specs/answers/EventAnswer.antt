-- `past` and `event`: the answers in order.
use Rattle.std.specs.Prelude.{ℕ, nat_lt, Option, None, Some, is_none, Result, Ok, Err, if◌then◌else◌, List}
use Rattle.duty_events.specs.declared.event.Event.{Event}
use Rattle.duty_events.specs.declared.stage.Stage.{Stage}
use Rattle.duty_events.specs.declared.event_fault.EventFault.{EventFault}
use Rattle.duty_events.specs.Allowed.{first_minute, last_minute, allow}
use Rattle.duty_events.specs.Lists.{stage_of, latest}
use Rattle.desk_base.specs.Window.{start_of}
use Rattle.desk_model.specs.declared.reply.Reply.{Reply}
use Rattle.desk_model.specs.declared.reply.Reply.TheVariants as reply
use Rattle.desk_model.specs.statements.Opening.{OpeningValue}
use Rattle.desk_model.specs.histories.History.{History}
use Rattle.desk_model.specs.histories.Register.{person_of}
use Rattle.desk_model.specs.offers.Offers.{on_offer}
use Rattle.desk_model.specs.histories.Duty.{events, is_closed}

-- it is not allowed after the person's events; else it is done
abbrev pub judged_answer : Result Stage EventFault → Reply
judged_answer (Ok next) = reply.Done
judged_answer (Err fault) = reply.Event fault

-- its first minute is before the window; its last is after the moment; else what the person's events give
abbrev pub told_answer : OpeningValue → List Event → ℕ → Event → Reply
told_answer o es m e =
    if nat_lt (first_minute e) (start_of o.window) then reply.OutsideWindow
    else if nat_lt m (last_minute e) then reply.EventAhead m
    else judged_answer (allow (stage_of es) e (latest es))

-- `past`: nobody has the number; the person was listed, or an event of theirs was accepted by `event`; else what the
-- event gives
abbrev pub past_answer : History → ℕ → ℕ → Event → Reply
past_answer h m p e =
    if is_none (person_of h p) then reply.UnknownPerson
    else if is_closed h p then reply.PastClosed
    else told_answer h.opening (events h p) m e

-- a vacancy is on offer to the person; else what the event gives
abbrev pub unless_frozen : Option ℕ → Reply → Reply
unless_frozen None other = other
unless_frozen (Some vac) other = reply.Frozen vac

-- `event`: nobody has the number; a vacancy is on offer to the person; else what the event gives
abbrev pub event_answer : History → ℕ → ℕ → Event → Reply
event_answer h m p e =
    if is_none (person_of h p) then reply.UnknownPerson
    else unless_frozen (on_offer h p) (told_answer h.opening (events h p) m e)
