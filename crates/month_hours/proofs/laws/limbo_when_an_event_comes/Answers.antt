use Rattle.month_hours.proofs.CappedLemmas.{capped_minutes-push}
use Rattle.month_hours.proofs.laws.limbo_when_an_event_comes.Goals as goal

pub returns : goal.returns
returns c = capped_minutes-push
