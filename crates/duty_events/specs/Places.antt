-- Where tours and other service end, and where someone is.
use Rattle.std.specs.Prelude.{ℕ, nat_le, Option, None, Some, unwrap_or, List, [], ◌∷◌, ◌++◌, reverse, if◌then◌else◌}
use Rattle.std.specs.Option.{option_map, option_to_list}
use Rattle.std.specs.List.{find}
use Rattle.duty_events.specs.declared.event.Event.{Event}
use Rattle.duty_events.specs.declared.event.Event.TheVariants as event
use Rattle.duty_events.specs.declared.stage.Stage.{Stage}
use Rattle.duty_events.specs.declared.stage.Stage.TheVariants as stage
use Rattle.duty_events.specs.declared.end.End.{End}
use Rattle.duty_events.specs.Lists.{stage_after}

-- a tour ends at its final release, or where the interim began during which that came
abbrev pub tour_end : Stage → ℕ → ℕ
tour_end (stage.Interim k since place) t = since
tour_end s t = t

abbrev pub end_at : ℕ → List ℕ → End
end_at at place = record { at = at; place = place }

-- the end that an event makes, which comes at a stage
abbrev pub end_by : Stage → Event → Option End
end_by s (event.Final t place) = Some (end_at (tour_end s t) place)
end_by s (event.Other span place) = Some (end_at span.to place)
end_by s e = None

-- the ends that events make, which come from a stage on, in order
abbrev pub ends_from : Stage → List Event → List End
ends_from s [] = []
ends_from s (e ∷ es) = option_to_list (end_by s e) ++ ends_from (stage_after s e) es

-- the last that came at or before a minute
abbrev pub last_end : List Event → ℕ → Option End
last_end es t = find (λ x. nat_le x.at t) (reverse (ends_from stage.Off es))

-- the place of the last tour or other service that ended at or before a minute, else home
unfoldable pub place_of : List Event → List ℕ → ℕ → List ℕ
place_of es home t = unwrap_or (option_map (λ x. x.place) (last_end es t)) home

-- the place of an end that came by the minute, else another
abbrev pub place_by : Option End → List ℕ → ℕ → List ℕ
place_by None other t = other
place_by (Some x) other t = if nat_le x.at t then x.place else other

-- where someone is before an event that comes at a stage: a final release during an interim ended the tour where that
-- began, and so moves them back then
abbrev pub place_until : Stage → Event → List ℕ → List ℕ
place_until (stage.Interim k since at) (event.Final t named) place = named
place_until s e place = place

-- where they are behind it
abbrev pub place_behind : Event → List ℕ → List ℕ
place_behind (event.Final t named) place = named
place_behind (event.Other span named) place = named
place_behind e place = place
