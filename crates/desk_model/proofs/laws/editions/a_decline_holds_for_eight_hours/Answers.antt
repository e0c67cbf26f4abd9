use Rattle.denial_rules.proofs.TableLemmas.{first_bar-none}
use Rattle.desk_model.specs.offers.Bars.{facts_of}
use Rattle.desk_model.proofs.HeldLemmas.{declined-hold_end}
use Rattle.desk_model.proofs.EditionLemmas.{held-declined, held-late}
use Rattle.desk_model.proofs.laws.editions.a_decline_holds_for_eight_hours.Goals as goal

pub returns-clause-ends : goal.returns-clause-ends
returns-clause-ends c h m p until codes some = held-declined h m p until codes some

pub returns-clause-holds : goal.returns-clause-holds
returns-clause-holds c h p codes two = λ k d within has m above.
    held-late h m p _ codes two (declined-hold_end h codes p k d within has) above

pub returns-clause-bars : goal.returns-clause-bars
returns-clause-bars c h m p until job person some = λ none.
    let free = (first_bar-none (facts_of h m job p person) none).1 in cc
