use Rattle.duty_events.proofs.LastTourLemmas.{owns-whole}
use Rattle.duty_events.proofs.laws.the_last_tour_ends_by_the_latest_minute.Goals as goal

pub returns : goal.returns
returns c es tour lawful is = (owns-whole es tour lawful is).0
