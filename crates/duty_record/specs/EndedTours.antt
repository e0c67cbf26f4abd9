-- The tours that have ended with a final release, by what a person did.
use Rattle.std.specs.Prelude.{ℕ, Option, None, if◌then◌else◌, List, [], ◌∷◌, ◌++◌}
use Rattle.std.specs.Option.{option_map}
use Rattle.std.specs.List.{cons_option}
use Rattle.duty_events.specs.declared.stage.Stage.{Stage}
use Rattle.duty_events.specs.declared.stage.Stage.TheVariants as stage
use Rattle.duty_events.specs.declared.tour.Tour.{Tour}
use Rattle.duty_events.specs.EndedTours.{ended, last_begun}
use Rattle.duty_events.specs.Lists.{stage_of, stage_after}
use Rattle.duty_events.specs.MinuteKind.{begins}
use Rattle.month_hours.specs.Capped.{is_limbo}
use Rattle.tour_build.specs.LastTour.{is_on_duty, tour_count, tour_capped, in_all}
use Rattle.duty_record.specs.declared.ended_tour.EndedTour.{EndedTour}
use Rattle.duty_record.specs.Deeds.{Deed, events_in}

-- the vacancy of the deed with which the last tour began: with deeds that come from a stage on and after a tour begun for this
-- vacancy, and with a list
abbrev pub begun_for : Stage → Option ℕ → Deed → Option ℕ
begun_for s vacancy d = if begins s d.event then d.vacancy else vacancy

abbrev pub vacancy_from : Stage → Option ℕ → List Deed → Option ℕ
vacancy_from s vacancy [] = vacancy
vacancy_from s vacancy (d ∷ later) = vacancy_from (stage_after s d.event) (begun_for s vacancy d) later

abbrev pub last_vacancy : List Deed → Option ℕ
last_vacancy ds = vacancy_from stage.Off None ds

-- a tour that these deeds end with: its minutes are those of the last tour by their events
abbrev pub ended_with : List Deed → Tour → EndedTour
ended_with ds t = record {
  tour = t;
  vacancy = last_vacancy ds;
  on_duty = in_all (tour_count is_on_duty (events_in ds));
  limbo = in_all (tour_count is_limbo (events_in ds));
  capped = in_all (tour_capped (events_in ds));
}

-- the tour that a deed ends, which comes behind others
abbrev pub ended_by : List Deed → Deed → Option EndedTour
ended_by before d = option_map (ended_with (before ++ d ∷ [])) (ended (stage_of (events_in before)) (last_begun (events_in before)) d.event)

-- the tours that deeds end which come behind others, and those of a list, in order
abbrev pub ended_from : List Deed → List Deed → List EndedTour
ended_from before [] = []
ended_from before (d ∷ later) = cons_option (ended_by before d) (ended_from (before ++ d ∷ []) later)

unfoldable pub ended_tours : List Deed → List EndedTour
ended_tours ds = ended_from [] ds
