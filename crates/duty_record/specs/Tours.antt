-- The records of tours that have ended, 49 CFR 228.11, and those that were too long.
use Rattle.std.specs.Prelude.{ℕ, ◌+◌, ◌-◌, Bool, false, ◌||◌, nat_lt, Option, unwrap_or, option_and_then, if◌then◌else◌, List, map, fold, filter, flat_map}
use Rattle.desk_base.specs.declared.limits.TheConstants.{NUMBER_LIMIT}
use Rattle.std.specs.List.{range_with_len}
use Rattle.std.specs.Option.{option_map_or}
use Rattle.duty_events.specs.declared.tour.Tour.{Tour}
use Rattle.duty_events.specs.declared.limits.TheConstants.{DUTY_LIMIT}
use Rattle.desk_model.specs.declared.limits.TheConstants.{PLAN_LIMIT, RELIEF_LIMIT}
use Rattle.desk_model.specs.statements.Job.{JobValue}
use Rattle.desk_model.specs.histories.History.{History}
use Rattle.desk_model.specs.histories.Register.{vacancy_of}
use Rattle.duty_record.specs.declared.ended_tour.EndedTour.{EndedTour}
use Rattle.duty_record.specs.declared.tour_record.TourRecord.{TourRecord}
use Rattle.duty_record.specs.Deeds.{deeds}
use Rattle.duty_record.specs.EndedTours.{ended_tours}

-- the vacancy was made for a relief crew, 49 USC 21103(d), where this is what each number was made as
abbrev pub relief_in : (ℕ → Option JobValue) → Option ℕ → Bool
relief_in made vacancy = option_map_or (λ job. job.relief) (option_and_then made vacancy) false

-- the first time that a number is made counts
abbrev pub is_relief : History → Option ℕ → Bool
is_relief h vacancy = relief_in (vacancy_of h) vacancy

-- the minutes on duty that a tour may have: twelve hours, 21103(a)(2), or as a relief crew's sixteen
abbrev pub most_on_duty : Bool → ℕ
most_on_duty relief = if relief then RELIEF_LIMIT else PLAN_LIMIT

-- the record of a person's tour, where this is whether it was a relief crew's
abbrev pub record_of : ℕ → Bool → EndedTour → TourRecord
record_of p relief t = record {
  person = p;
  vacancy = unwrap_or t.vacancy 0;
  start = t.tour.start;
  end = t.tour.end;
  place = t.tour.place;
  on_duty = t.on_duty;
  limbo = t.limbo;
  excess = (t.on_duty + t.limbo) - DUTY_LIMIT;
  capped = t.capped;
  over = nat_lt (most_on_duty relief) t.on_duty;
}

-- the records of a person's tours, in order
unfoldable pub tours : History → ℕ → List TourRecord
tours h p = map (λ t. record_of p (is_relief h t.vacancy) t) (ended_tours (deeds h p))

-- where a record's tour went
abbrev pub tour_of : TourRecord → Tour
tour_of t = record { start = t.start; end = t.end; place = t.place }

-- the excess of the last of these; 0 where there is none
abbrev pub last_excess : List TourRecord → ℕ
last_excess ts = fold (λ n t. t.excess) 0 ts

-- a tour that has more than twelve hours on duty and in limbo, 21103(c)(4), or more on duty than it may
abbrev pub is_excess : TourRecord → Bool
is_excess t = nat_lt 0 t.excess || t.over

abbrev pub excess_of : History → ℕ → List TourRecord
excess_of h p = filter is_excess (tours h p)

-- those of all persons, by rising number from 1 to 9,999,999, and each person's in order
unfoldable pub excess_list : History → List TourRecord
excess_list h = flat_map (excess_of h) (range_with_len 1 NUMBER_LIMIT)
