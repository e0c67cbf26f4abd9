use Rattle.month_hours.proofs.OverLemmas.{over_month-none, over_limbo-none}
use Rattle.month_hours.proofs.laws.hours_in_words.Goals as goal

pub returns : goal.returns
returns c = record { hours = over_month-none; limbo = over_limbo-none }
