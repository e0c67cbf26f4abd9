use Rattle.desk_model.proofs.StayLemmas.{place-stays}
use Rattle.desk_model.proofs.laws.answers.a_place_stays_from_the_latest_minute_on.Goals as goal

pub returns : goal.returns
returns c = place-stays
