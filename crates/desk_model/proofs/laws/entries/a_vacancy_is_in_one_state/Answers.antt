use Rattle.std.proofs.Common.{sym}
use Rattle.desk_model.proofs.AssignedLemmas.{assigned-has}
use Rattle.desk_model.proofs.OneOfferLemmas.{one-offer}
use Rattle.desk_model.proofs.OneStateLemmas.{offered-state, state-offered, taken-state, state-taken, begun-state, state-begun, annulled-state, state-annulled}
use Rattle.desk_model.proofs.laws.entries.a_vacancy_is_in_one_state.Goals as goal

pub returns-clause-offered : goal.returns-clause-offered
returns-clause-offered c h legal v p = (offered-state h v p legal, state-offered h v p legal)

pub returns-clause-taken : goal.returns-clause-taken
returns-clause-taken c h legal v p = (taken-state h v p legal, state-taken h v p legal)

pub returns-clause-begun : goal.returns-clause-begun
returns-clause-begun c h legal v p = (begun-state h v p legal, state-begun h v p legal)

pub returns-clause-annulled : goal.returns-clause-annulled
returns-clause-annulled c h legal v = (annulled-state h v legal, state-annulled h v legal)

pub returns-clause-idle : goal.returns-clause-idle
returns-clause-idle c h legal v w p to = (one-offer h legal).idle v w p to

pub returns-clause-has : goal.returns-clause-has
returns-clause-has c h v p = sym (assigned-has h p v)
