use Rattle.desk_model.proofs.ComesLemmas.{comes}
use Rattle.desk_model.proofs.StateStepLemmas.{state-comes}
use Rattle.desk_model.proofs.OnOfferLemmas.{on_offer-comes}
use Rattle.desk_model.proofs.MomentLemmas.{last_moment-comes}
use Rattle.desk_model.proofs.laws.entries.what_an_entry_makes_of_the_desk.Goals as goal

pub returns-clause-comes : goal.returns-clause-comes
returns-clause-comes c h e = comes h e

pub returns-clause-state : goal.returns-clause-state
returns-clause-state c h e v legal is = state-comes h e v legal is

pub returns-clause-on_offer : goal.returns-clause-on_offer
returns-clause-on_offer c h e p legal is = on_offer-comes h e p legal is

pub returns-clause-moment : goal.returns-clause-moment
returns-clause-moment c h e = last_moment-comes h e
