use Rattle.duty_record.proofs.LastExcessLemmas.{last_excess-is}
use Rattle.duty_record.proofs.laws.the_last_excess_is_owed_to_rest.Goals as goal

pub returns : goal.returns
returns c = last_excess-is
