use Rattle.crew_call.proofs.EndedLemmas.{ended-between}
use Rattle.crew_call.proofs.laws.who_ended_an_offer.Goals as goal

pub returns : goal.returns
returns c = ended-between c.the_first_entries_are_legal.ensures.begins c.an_open_offer_may_be_settled.ensures.decline
