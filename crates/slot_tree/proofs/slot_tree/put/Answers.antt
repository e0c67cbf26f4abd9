use Rattle.std.proofs.Common.{◌∙◌}
use Rattle.slot_tree.proofs.WordLemmas.{told-written}
use Rattle.slot_tree.proofs.slot_tree.put.Goals as goal

pub returns-clause-told : goal.returns-clause-told
returns-clause-told c = told-written _ _ _ _ _ c.requires.within c.requires.told (c.mark.ensures.this ∙ c.is_some.ensures) c.mark.ensures.others
