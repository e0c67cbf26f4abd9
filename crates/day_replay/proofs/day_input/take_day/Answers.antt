use Rattle.std.proofs.lemmas.Result.{IfOk-weaker}
use Rattle.std.proofs.Common.{arith}
use Rattle.day_replay.proofs.ReplayLemmas.{WasMade-day}
use Rattle.day_replay.proofs.day_input.take_day.Goals as goal

pub returns-clause-day : goal.returns-clause-day
returns-clause-day g c = IfOk-weaker c.take_made.result _ _ (λ day made. (WasMade-day _ _ day made).read) c.take_made.ensures.made

pub returns-clause-opening : goal.returns-clause-opening
returns-clause-opening g c = IfOk-weaker c.take_made.result _ _ (λ day made. (WasMade-day _ _ day made).valid) c.take_made.ensures.made

pub returns-clause-stated : goal.returns-clause-stated
returns-clause-stated g c = IfOk-weaker c.take_made.result _ _ (λ day made. (WasMade-day _ _ day made).stated) c.take_made.ensures.made

pub returns-clause-few : goal.returns-clause-few
returns-clause-few g c = IfOk-weaker c.take_made.result _ _ (λ day made. omega (arith, (WasMade-day _ _ day made).few, day.commands.ok.0)) c.take_made.ensures.made
