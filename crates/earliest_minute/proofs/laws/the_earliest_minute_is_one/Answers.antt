use Rattle.earliest_minute.proofs.FoundLemmas.{one-time}
use Rattle.earliest_minute.proofs.laws.the_earliest_minute_is_one.Goals as goal

pub returns : goal.returns
returns c = one-time
