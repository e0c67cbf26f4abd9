use Rattle.consecutive_days.proofs.StartLemmas.{last_start-push, run_days-push, last_day-order, run_days-most}
use Rattle.consecutive_days.proofs.days.days_when_an_event_comes.Goals as goal

pub returns : goal.returns
returns c = record { start = last_start-push; days = run_days-push; order = last_day-order; most = run_days-most }
