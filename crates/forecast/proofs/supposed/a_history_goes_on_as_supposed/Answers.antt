use Rattle.forecast.proofs.SupposedLemmas.{goes-on}
use Rattle.forecast.proofs.supposed.a_history_goes_on_as_supposed.Goals as goal

pub returns : goal.returns
returns c = goes-on c.one_history_is_legal.ensures.only c.a_history_goes_on_with_commands.ensures.behind
