use Rattle.duty_events.proofs.DuringLemmas.{kind_during-is}
use Rattle.duty_events.proofs.OffLemmas.{off-behind}
use Rattle.duty_events.proofs.laws.kinds_by_the_stage.Goals as goal

pub returns : goal.returns
returns c = record { until = kind_during-is; off = off-behind }
