use Rattle.duty_events.proofs.OffLemmas.{off-unless_worked}
use Rattle.duty_events.proofs.laws.a_minute_that_is_not_worked_is_off.Goals as goal

pub returns : goal.returns
returns c = off-unless_worked
