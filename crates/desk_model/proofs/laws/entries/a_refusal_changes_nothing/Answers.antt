use Rattle.desk_model.proofs.RefusalLemmas.{refused}
use Rattle.desk_model.proofs.laws.entries.a_refusal_changes_nothing.Goals as goal

pub returns : goal.returns
returns c h e same = refused h e same
