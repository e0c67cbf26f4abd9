use Rattle.duty_events.proofs.AskedLemmas.{asked_minutes-push}
use Rattle.duty_events.proofs.laws.counts_when_an_event_comes.Goals as goal

pub returns : goal.returns
returns c = asked_minutes-push
