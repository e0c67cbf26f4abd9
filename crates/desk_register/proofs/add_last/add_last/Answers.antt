use Rattle.std.proofs.Common.{ap, ◌∙◌}
use Rattle.std.proofs.lemmas.List.{map-append}
use Rattle.std.specs.Map.{keys_of}
use Rattle.indexmap.proofs.CallerLemmas.{insert_entry-new}
use Rattle.desk_register.proofs.add_last.add_last.Goals as goal

-- src/add_last.rt:8:1
pub returns-in-Ok-clause-keys : goal.returns-in-Ok-clause-keys
returns-in-Ok-clause-keys g c = ap keys_of (c.in-Ok.ensures.entries ∙ insert_entry-new _ c.args.map.now _ _ c.requires.new) ∙ map-append _ _ _
