use Rattle.desk_model.proofs.OneOfferLemmas.{one-offer}
use Rattle.desk_model.proofs.laws.entries.one_offer_to_a_person.Goals as goal

pub returns : goal.returns
returns c h legal v w p to too = (one-offer h legal).one v w p to too
