-- What a running tour stands for.
use Rattle.std.specs.Prelude.{◌≡◌, ℕ, Option, List}
use Rattle.desk_base.specs.Window.{WindowValue}
use Rattle.duty_events.specs.declared.event.Event.{Event}
use Rattle.duty_events.specs.declared.stage.Stage.{Stage}
use Rattle.duty_events.specs.EndedTours.{last_begun}
use Rattle.duty_events.specs.Lists.{IsLawful, stage_of, latest}
use Rattle.duty_events.specs.Tours.{is_in_tour}
use Rattle.month_hours.specs.Capped.{is_limbo}
use Rattle.tour_build.specs.LastTour.{is_on_duty, tour_count, tour_capped, in_all}
use Rattle.tour_build.specs.MonthSums.{AreSums}

-- the stage, the latest minute, where the last tour began, and its minutes on duty, in limbo and capped
pub record TotalsValue : Type 0 where
  pub stage : Stage
  pub last : Option ℕ
  pub begun : Option ℕ
  pub on_duty : ℕ
  pub limbo : ℕ
  pub capped : ℕ

abbrev pub totals_of : Stage → Option ℕ → Option ℕ → ℕ → ℕ → ℕ → TotalsValue
totals_of stage last begun on_duty limbo capped = record { stage = stage; last = last; begun = begun; on_duty = on_duty; limbo = limbo; capped = capped }

-- they are those of the last tour by a lawful list of events
pub record AreTotals (t : TotalsValue) (es : List Event) : Type 0 where
  pub lawful : IsLawful es
  pub at : t.stage ≡ stage_of es
  pub came : t.last ≡ latest es
  pub start : t.begun ≡ last_begun es
  pub worked : t.on_duty ≡ in_all (tour_count is_on_duty es)
  pub waited : t.limbo ≡ in_all (tour_count is_limbo es)
  pub over : t.capped ≡ in_all (tour_capped es)

-- the same, with the window and the sums by its months: of minutes on duty and in limbo, and of capped ones
pub record RunningTourValue : Type 0 where
  pub window : WindowValue
  pub totals : TotalsValue
  pub used_in : List ℕ
  pub capped_in : List ℕ

abbrev pub running_of : WindowValue → TotalsValue → List ℕ → List ℕ → RunningTourValue
running_of window totals used_in capped_in = record { window = window; totals = totals; used_in = used_in; capped_in = capped_in }

pub record Runs (r : RunningTourValue) (es : List Event) : Type 0 where
  pub all : AreTotals r.totals es
  pub months : AreSums r.window (tour_count is_in_tour es) r.used_in
  pub capped_months : AreSums r.window (tour_capped es) r.capped_in
