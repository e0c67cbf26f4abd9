use Rattle.std.proofs.Common.{[], refl}
use Rattle.duty_events.specs.Tours.{is_in_tour}
use Rattle.tour_build.specs.LastTour.{tour_count, tour_capped}
use Rattle.tour_build.proofs.CountLemmas.{tour_count-nil, tour_capped-nil}
use Rattle.tour_build.proofs.running_tour.RunningTour.begin.Goals as goal

pub returns-clause-runs : goal.returns-clause-runs
returns-clause-runs c = record {
  all = c.none.ensures;
  months = c.none-2.ensures c.args.window (tour_count is_in_tour []) (tour_count-nil is_in_tour (refl, refl));
  capped_months = c.none-3.ensures c.args.window (tour_capped []) tour_capped-nil;
}
