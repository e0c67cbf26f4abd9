use Rattle.crew_call.proofs.OutcomeLemmas.{outcomes}
use Rattle.crew_call.proofs.laws.what_an_outcome_says.Goals as goal

pub returns : goal.returns
returns c = outcomes c.the_first_entries_are_legal.ensures.begins c.who_ended_an_offer.ensures
