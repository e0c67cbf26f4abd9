-- Tours that have ended.
use Rattle.std.specs.Prelude.{ℕ, Option, None, Some, if◌then◌else◌, List, [], ◌∷◌, fold}
use Rattle.std.specs.List.{cons_option}
use Rattle.duty_events.specs.declared.event.Event.{Event}
use Rattle.duty_events.specs.declared.event.Event.TheVariants as event
use Rattle.duty_events.specs.declared.stage.Stage.{Stage}
use Rattle.duty_events.specs.declared.stage.Stage.TheVariants as stage
use Rattle.duty_events.specs.declared.tour.Tour.{Tour}
use Rattle.duty_events.specs.Allowed.{first_minute}
use Rattle.duty_events.specs.Lists.{stage_after}
use Rattle.duty_events.specs.MinuteKind.{begins}
use Rattle.duty_events.specs.Places.{tour_end}

-- where the last tour began, after an event that comes at a stage: at the event where one begins there
abbrev pub begun : Stage → Option ℕ → Event → Option ℕ
begun s start e = if begins s e then Some (first_minute e) else start

-- the tour that an event ends, which comes at a stage and in a tour that began at a minute: a final release ends it
abbrev pub ended : Stage → Option ℕ → Event → Option Tour
ended s (Some start) (event.Final t place) = Some (record { start = start; end = tour_end s t; place = place })
ended s start e = None

-- the tours that end with events which come from a stage on, where the last tour began at a minute
abbrev pub tours_from : Stage → Option ℕ → List Event → List Tour
tours_from s start [] = []
tours_from s start (e ∷ es) = cons_option (ended s start e) (tours_from (stage_after s e) (begun s start e) es)

-- the tours that have ended, in order, and the last of them
abbrev pub tours : List Event → List Tour
tours es = tours_from stage.Off None es

abbrev pub last_of : List Tour → Option Tour
last_of ts = fold (λ o t. Some t) None ts

unfoldable pub last_tour : List Event → Option Tour
last_tour es = last_of (tours es)

-- where the last tour began, with events that come from a stage on and after a tour that began at a minute, and with a list
abbrev pub begun_from : Stage → Option ℕ → List Event → Option ℕ
begun_from s start [] = start
begun_from s start (e ∷ es) = begun_from (stage_after s e) (begun s start e) es

abbrev pub last_begun : List Event → Option ℕ
last_begun es = begun_from stage.Off None es

-- where it ended, 0 if there is none
abbrev pub end_of : Option Tour → ℕ
end_of None = 0
end_of (Some tour) = tour.end
