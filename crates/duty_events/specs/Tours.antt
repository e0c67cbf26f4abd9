-- Tours: where one begins, and how many minutes of it come before a minute.
use Rattle.std.specs.Prelude.{ℕ, ◌-◌, Bool, true, false, ◌&&◌, nat_le, min, Option, None, Some, List, map, reverse, if◌then◌else◌}
use Rattle.std.specs.List.{filter, find}
use Rattle.duty_events.specs.declared.event.Event.{Event}
use Rattle.duty_events.specs.declared.minute_kind.MinuteKind.{MinuteKind}
use Rattle.duty_events.specs.declared.minute_kind.MinuteKind.TheVariants as minute
use Rattle.duty_events.specs.Allowed.{first_minute, last_minute}
use Rattle.duty_events.specs.Lists.{last_event, reached}
use Rattle.duty_events.specs.MinuteKind.{Mark, marks, kind_of}
use Rattle.duty_events.specs.Between.{between}
use Rattle.duty_events.specs.Minutes.{minutes_where}

-- on duty or limbo: the minutes of a tour that are summed
abbrev pub is_in_tour : MinuteKind → Bool
is_in_tour minute.OnDuty = true
is_in_tour minute.Limbo = true
is_in_tour minute.Other = false
is_in_tour minute.Off = false
is_in_tour minute.Open = false

-- the tour of a minute begins at the last mark at or before it at which one begins
abbrev pub tour_mark : List Mark → ℕ → Option Mark
tour_mark ms t = find (λ m. nat_le m.at t && m.begins) (reverse ms)

-- the minute of the mark, 0 if there is none
abbrev pub start_at : Option Mark → ℕ
start_at None = 0
start_at (Some m) = m.at

unfoldable pub tour_start : List Event → ℕ → ℕ
tour_start es t = start_at (tour_mark (marks es) t)

-- how many minutes that come before a minute, and not before its tour, are on duty or limbo
unfoldable pub tour_minutes : List Event → ℕ → ℕ
tour_minutes es t = minutes_where (λ u. is_in_tour (kind_of es u)) (tour_start es t) (t - tour_start es t)

-- the minutes at which tours begin, in order
unfoldable pub starts : List Event → List ℕ
starts es = map (λ m. m.at) (filter (λ m. m.begins) (marks es))

-- the minute of the last mark at which a tour begins, 0 if there is none
abbrev pub begun_at : List Mark → ℕ
begun_at ms = start_at (find (λ m. m.begins) (reverse ms))

-- how many minutes of the last tour that has begun are on duty or limbo so far
unfoldable pub sum_so_far : List Event → ℕ
sum_so_far es = minutes_where (λ u. is_in_tour (kind_of es u)) (begun_at (marks es)) (reached (last_event es) - begun_at (marks es))

-- how many minutes from an event to the next are on duty or limbo
abbrev pub tour_minutes_between : Option Event → Event → ℕ
tour_minutes_between None next = 0
tour_minutes_between (Some e) next = if is_in_tour (between e next) then first_minute next - last_minute e else 0

-- the same, of those that come before a minute
abbrev pub more_until : Option Event → Event → ℕ → ℕ
more_until None next t = 0
more_until (Some e) next t = if is_in_tour (between e next) then min (first_minute next) t - last_minute e else 0
