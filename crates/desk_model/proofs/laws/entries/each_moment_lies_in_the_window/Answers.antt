use Rattle.desk_model.proofs.ToldLemmas.{entry-within}
use Rattle.desk_model.proofs.laws.entries.each_moment_lies_in_the_window.Goals as goal

pub returns : goal.returns
returns c = entry-within
