use Rattle.duty_events.proofs.LastTourLemmas.{ended-sum}
use Rattle.duty_events.proofs.TourLemmas.{sum_so_far-push, sum_so_far-range, tour_minutes-early, tour_minutes-middle}
use Rattle.duty_events.proofs.laws.sums_when_an_event_comes.Goals as goal

pub returns : goal.returns
returns c = record { sum = sum_so_far-push; range = sum_so_far-range; ended = ended-sum; stay = tour_minutes-early; until = tour_minutes-middle }
