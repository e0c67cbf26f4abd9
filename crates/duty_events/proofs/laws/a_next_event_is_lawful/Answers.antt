use Rattle.duty_events.proofs.ListLemmas.{lawful-push}
use Rattle.duty_events.proofs.laws.a_next_event_is_lawful.Goals as goal

pub returns : goal.returns
returns c = lawful-push
