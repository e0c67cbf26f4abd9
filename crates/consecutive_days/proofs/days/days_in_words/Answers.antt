use Rattle.consecutive_days.proofs.DaysLemmas.{days_ok-decides}
use Rattle.consecutive_days.proofs.days.days_in_words.Goals as goal

pub returns : goal.returns
returns c = days_ok-decides
