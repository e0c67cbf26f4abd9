use Rattle.desk_model.proofs.StandingOfferLemmas.{unmade-closed}
use Rattle.desk_model.proofs.laws.offers.what_was_never_made_is_not_on_offer.Goals as goal

pub returns : goal.returns
returns c = unmade-closed
