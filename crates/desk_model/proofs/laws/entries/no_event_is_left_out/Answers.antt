use Rattle.desk_model.proofs.EventLemmas.{events-all}
use Rattle.desk_model.proofs.laws.entries.no_event_is_left_out.Goals as goal

pub returns : goal.returns
returns c h legal p = events-all h p legal
