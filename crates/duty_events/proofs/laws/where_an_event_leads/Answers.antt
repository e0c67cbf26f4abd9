use Rattle.duty_events.proofs.ListLemmas.{stage_of-push, last_event-push}
use Rattle.duty_events.proofs.laws.where_an_event_leads.Goals as goal

pub returns : goal.returns
returns c = record { stage = stage_of-push; last = last_event-push }
