use Rattle.desk_model.proofs.StandingOfferLemmas.{may-settle, decline-done, accept-done, accept-lapsed, silent-done, silent-early}
use Rattle.desk_model.proofs.laws.offers.an_open_offer_may_be_settled.Goals as goal

pub returns : goal.returns
returns c = record {
  may = may-settle;
  decline = decline-done;
  accept = accept-done;
  lapsed = accept-lapsed;
  no_answer = silent-done;
  early = silent-early;
}
