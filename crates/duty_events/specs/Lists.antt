-- Lists of events: the stage that they end in, their latest minute, and which are lawful.
use Rattle.std.specs.Prelude.{◌≡◌, ℕ, ◌≤◌, Bool, ◌&&◌, nat_le, Option, None, Some, unwrap_or, IsOk, is_ok, List, take, fold}
use Rattle.std.specs.Option.{option_map}
use Rattle.std.specs.List.{slice_get}
use Rattle.desk_base.specs.Minute.{IsInYears, is_in_years}
use Rattle.duty_events.specs.declared.event.Event.{Event}
use Rattle.duty_events.specs.declared.stage.Stage.{Stage}
use Rattle.duty_events.specs.declared.stage.Stage.TheVariants as stage
use Rattle.duty_events.specs.Allowed.{row, first_minute, last_minute, allow}

-- the stage after an event that is allowed
abbrev pub stage_after : Stage → Event → Stage
stage_after s e = unwrap_or (row s e) s

-- the stage that a list of events ends in
abbrev pub stage_of : List Event → Stage
stage_of es = fold stage_after stage.Off es

-- the last event of a list
abbrev pub last_event : List Event → Option Event
last_event es = fold (λ o e. Some e) None es

-- the latest minute of a list: that of its last event, since in a lawful list none begins before those before it end
abbrev pub latest : List Event → Option ℕ
latest es = option_map last_minute (last_event es)

-- the same, 0 where there are no events
abbrev pub reached : Option Event → ℕ
reached None = 0
reached (Some e) = last_minute e

-- an event may follow a stage and a latest minute: it is allowed, its minutes lie in the years 2000 to 2099, and it
-- doesn't end before it begins
pub record Follows (s : Stage) (last : Option ℕ) (e : Event) : Type 0 where
  pub allowed : IsOk (allow s e last)
  pub first_in : IsInYears (first_minute e)
  pub last_in : IsInYears (last_minute e)
  pub whole : first_minute e ≤ last_minute e

-- the test of it
abbrev pub may_follow : Stage → Option ℕ → Event → Bool
may_follow s last e = is_ok (allow s e last) && is_in_years (first_minute e) && is_in_years (last_minute e) && nat_le (first_minute e) (last_minute e)

-- an event may follow these
abbrev pub IsNext : List Event → Event → Type 0
IsNext es e = Follows (stage_of es) (latest es) e

-- each event may follow those before it
pub record IsLawful (es : List Event) : Type 0 where
  pub each : (place : ℕ) (e : Event) → slice_get es place ≡ Some e → IsNext (take place es) e
