-- Which event may follow which: the table of stages, and the refusals in their order.
use Rattle.std.specs.Prelude.{ℕ, ◌-◌, Bool, true, false, ◌&&◌, nat_lt, nat_le, Option, None, Some, Result, Ok, Err, List, if◌then◌else◌}
use Rattle.std.specs.Str.{bytes_eq}
use Rattle.duty_events.specs.declared.limits.TheConstants.{INTERIM_LIMIT}
use Rattle.duty_events.specs.declared.kind.Kind.{Kind}
use Rattle.duty_events.specs.declared.kind.Kind.TheVariants as kind
use Rattle.duty_events.specs.declared.event.Event.{Event}
use Rattle.duty_events.specs.declared.event.Event.TheVariants as event
use Rattle.duty_events.specs.declared.stage.Stage.{Stage}
use Rattle.duty_events.specs.declared.stage.Stage.TheVariants as stage
use Rattle.duty_events.specs.declared.event_fault.EventFault.{EventFault}
use Rattle.duty_events.specs.declared.event_fault.EventFault.TheVariants as fault

-- the stage that an event leads to from a stage; None where nothing of that kind follows it
abbrev pub row : Stage → Event → Option Stage
row stage.Off (event.Ride t) = Some stage.Riding
row stage.Off (event.Duty t) = Some stage.Duty
row stage.Off (event.Other span place) = Some stage.Off
row stage.Riding (event.Duty t) = Some stage.Duty
row stage.Riding (event.Final t place) = Some stage.Off
row stage.Duty (event.Final t place) = Some stage.Off
row (stage.Interim k since at) (event.Final t place) = Some stage.Off
row stage.Waiting (event.Final t place) = Some stage.Off
row stage.RidingHome (event.Final t place) = Some stage.Off
row stage.Duty (event.Interim t k place) = Some (stage.Interim k t place)
row (stage.Interim k since at) (event.Resume t) = Some stage.Duty
row stage.Duty (event.Relieve t) = Some stage.Waiting
row stage.Duty (event.RideHome t) = Some stage.RidingHome
row stage.Waiting (event.RideHome t) = Some stage.RidingHome
row s e = None

-- an event's first minute and its last: the first after other service, else the same
abbrev pub first_minute : Event → ℕ
first_minute (event.Ride t) = t
first_minute (event.Duty t) = t
first_minute (event.Interim t k place) = t
first_minute (event.Resume t) = t
first_minute (event.Relieve t) = t
first_minute (event.RideHome t) = t
first_minute (event.Final t place) = t
first_minute (event.Other span place) = span.from

abbrev pub last_minute : Event → ℕ
last_minute (event.Other span place) = span.to
last_minute (event.Ride t) = t
last_minute (event.Duty t) = t
last_minute (event.Interim t k place) = t
last_minute (event.Resume t) = t
last_minute (event.Relieve t) = t
last_minute (event.RideHome t) = t
last_minute (event.Final t place) = t

-- an interim of this kind has to be shorter than ten hours
abbrev pub is_limited : Kind → Bool
is_limited kind.D = true
is_limited kind.P = true
is_limited kind.O = false

-- the event begins before the latest minute so far
abbrev pub behind : ℕ → Option ℕ → Option EventFault
behind first None = None
behind first (Some last) = if nat_lt first last then Some (fault.Behind last) else None

-- an interim of a limited kind that has lasted these minutes, ten hours or more
abbrev pub too_long : Kind → ℕ → Option EventFault
too_long k minutes = if is_limited k && nat_le INTERIM_LIMIT minutes then Some (fault.InterimTooLong minutes) else None

-- an interim at a place, and a final release during it that names another
abbrev pub other_place : List ℕ → List ℕ → Option EventFault
other_place at named = if bytes_eq at named then None else Some (fault.OtherPlace at)

-- what is wrong with a resume after an interim, and with a final release during it
abbrev pub interim_fault : Stage → Event → Option EventFault
interim_fault (stage.Interim k since at) (event.Resume t) = too_long k (t - since)
interim_fault (stage.Interim k since at) (event.Final t named) = other_place at named
interim_fault s e = None

-- the fault where there is one, else the stage
abbrev pub refuse : Option EventFault → Result Stage EventFault → Result Stage EventFault
refuse None rest = rest
refuse (Some f) rest = Err f

abbrev pub follow : Option Stage → Stage → Event → Option ℕ → Result Stage EventFault
follow None s e last = Err (fault.WrongStage s)
follow (Some next) s e last = refuse (behind (first_minute e) last) (refuse (interim_fault s e) (Ok next))

-- the stage that an event leads to after events that ended in a stage and whose latest minute is the last, or why it is
-- not allowed
abbrev pub allow : Stage → Event → Option ℕ → Result Stage EventFault
allow s e last = follow (row s e) s e last
