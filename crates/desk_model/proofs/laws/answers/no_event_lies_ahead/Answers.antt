use Rattle.desk_model.proofs.AheadLemmas.{latest-over}
use Rattle.desk_model.proofs.laws.answers.no_event_lies_ahead.Goals as goal

pub returns : goal.returns
returns c = latest-over
