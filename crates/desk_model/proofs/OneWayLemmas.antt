-- That a history is legal is a proposition.
use Rattle.std.proofs.Props.{props}
use Rattle.duty_events.specs.declared.event.Event.{Event}
use Rattle.duty_events.specs.declared.event.Event.TheVariants as event
use Rattle.desk_model.specs.declared.command.Cmd.{Cmd}
use Rattle.desk_model.specs.declared.command.Cmd.TheVariants as cmd
use Rattle.desk_model.specs.statements.Fits.{IsCommand, IsEvent}
use Rattle.desk_model.specs.histories.History.{History}
use Rattle.desk_model.specs.histories.Legal.{IsLegal}

IsEvent-IsProp : (e : Event) → IsProp (IsEvent e)
IsEvent-IsProp (event.Ride at) = hlevel props
IsEvent-IsProp (event.Duty at) = hlevel props
IsEvent-IsProp (event.Interim at kind place) = hlevel props
IsEvent-IsProp (event.Resume at) = hlevel props
IsEvent-IsProp (event.Relieve at) = hlevel props
IsEvent-IsProp (event.RideHome at) = hlevel props
IsEvent-IsProp (event.Final at place) = hlevel props
IsEvent-IsProp (event.Other span place) = hlevel props

IsCommand-IsProp : (c : Cmd) → IsProp (IsCommand c)
IsCommand-IsProp (cmd.Enrol person craft home quals) = hlevel props
IsCommand-IsProp (cmd.Board board extra place) = hlevel props
IsCommand-IsProp (cmd.List person board) = hlevel props
IsCommand-IsProp (cmd.Unlist person board) = hlevel props
IsCommand-IsProp (cmd.MarkOff person) = hlevel props
IsCommand-IsProp (cmd.MarkOn person) = hlevel props
IsCommand-IsProp (cmd.Qualify person quals) = hlevel props
IsCommand-IsProp (cmd.Past person e) = hlevel (props, IsEvent-IsProp)
IsCommand-IsProp (cmd.Happened person e) = hlevel (props, IsEvent-IsProp)
IsCommand-IsProp (cmd.Vacancy job) = hlevel props
IsCommand-IsProp (cmd.Next vac) = hlevel props
IsCommand-IsProp (cmd.Offer vac person) = hlevel props
IsCommand-IsProp (cmd.Accept vac person) = hlevel props
IsCommand-IsProp (cmd.Decline vac person) = hlevel props
IsCommand-IsProp (cmd.NoAnswer vac person) = hlevel props
IsCommand-IsProp (cmd.Withdraw vac person) = hlevel props
IsCommand-IsProp (cmd.Annul vac) = hlevel props
IsCommand-IsProp (cmd.Drop person) = hlevel props
IsCommand-IsProp (cmd.Hours person month) = hlevel props
IsCommand-IsProp (cmd.At board place) = hlevel props
IsCommand-IsProp (cmd.Explain vac person) = hlevel props
IsCommand-IsProp (cmd.Vac vac) = hlevel props

pub IsLegal-IsProp : (h : History) → IsProp (IsLegal h)
IsLegal-IsProp h = hlevel (props, IsCommand-IsProp)
