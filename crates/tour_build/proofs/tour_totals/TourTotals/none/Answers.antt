use Rattle.std.proofs.Common.{◌^◌, refl, sym}
use Rattle.month_hours.specs.Capped.{is_limbo}
use Rattle.tour_build.specs.LastTour.{is_on_duty}
use Rattle.tour_build.proofs.CountLemmas.{tour_count-nil, tour_capped-nil}
use Rattle.tour_build.proofs.tour_totals.TourTotals.none.Goals as goal

pub returns : goal.returns
returns c = record {
  lawful = record { each = λ index e is. cc };
  at = refl;
  came = refl;
  start = refl;
  worked = sym (tour_count-nil is_on_duty (refl, refl) 0 (2 ^ 28));
  waited = sym (tour_count-nil is_limbo (refl, refl) 0 (2 ^ 28));
  over = sym (tour_capped-nil 0 (2 ^ 28));
}
