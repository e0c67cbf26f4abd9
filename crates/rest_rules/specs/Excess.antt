-- What a tour has over twelve hours.
use Rattle.std.specs.Prelude.{ℕ, ◌-◌, Option, None, Some, List}
use Rattle.duty_events.specs.declared.limits.TheConstants.{DUTY_LIMIT}
use Rattle.duty_events.specs.declared.event.Event.{Event}
use Rattle.duty_events.specs.declared.tour.Tour.{Tour}
use Rattle.duty_events.specs.MinuteKind.{kind_of}
use Rattle.duty_events.specs.Minutes.{minutes_where}
use Rattle.duty_events.specs.Tours.{is_in_tour}
use Rattle.duty_events.specs.EndedTours.{last_tour}

-- how many minutes of a tour are on duty or limbo
abbrev pub tour_sum : List Event → Tour → ℕ
tour_sum es tour = minutes_where (λ t. is_in_tour (kind_of es t)) tour.start (tour.end - tour.start)

-- how many of those are over twelve hours, 0 where there is no tour
abbrev pub over_limit : List Event → Option Tour → ℕ
over_limit es None = 0
over_limit es (Some tour) = tour_sum es tour - DUTY_LIMIT

-- the excess of the last tour that has ended (21103(c)(4))
unfoldable pub excess : List Event → ℕ
excess es = over_limit es (last_tour es)
