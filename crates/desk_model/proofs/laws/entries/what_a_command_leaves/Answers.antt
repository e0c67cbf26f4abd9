use Rattle.desk_model.proofs.PartLemmas.{stays}
use Rattle.desk_model.proofs.laws.entries.what_a_command_leaves.Goals as goal

pub returns : goal.returns
returns c h e legal is part apart = stays h e legal is part apart
