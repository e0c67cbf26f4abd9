use Rattle.desk_model.proofs.FitLemmas.{entries-fit}
use Rattle.desk_model.proofs.laws.legal.a_legal_history_fits.Goals as goal

pub returns : goal.returns
returns c = entries-fit c.what_a_bar_of_the_law_keeps.ensures
