use Rattle.duty_events.proofs.EventLemmas.{kind_of-behind}
use Rattle.duty_events.proofs.OffLemmas.{kind_of-known}
use Rattle.duty_events.proofs.laws.kinds_about_the_latest_minute.Goals as goal

pub returns : goal.returns
returns c = record { before = kind_of-known; behind = kind_of-behind }
