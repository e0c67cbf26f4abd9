use Rattle.duty_events.proofs.LastTourLemmas.{last_tour-minutes}
use Rattle.duty_events.proofs.laws.a_tour_is_one_by_events_and_by_marks.Goals as goal

pub returns : goal.returns
returns c es tour lawful is t from to = last_tour-minutes es tour lawful is t from to
