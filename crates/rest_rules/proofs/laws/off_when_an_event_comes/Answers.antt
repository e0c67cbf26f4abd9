use Rattle.rest_rules.proofs.OffFromLemmas.{off_from-push}
use Rattle.rest_rules.proofs.laws.off_when_an_event_comes.Goals as goal

pub returns : goal.returns
returns c = off_from-push
