use Rattle.std.proofs.Common.{ap, ◌∙◌}
use Rattle.std.proofs.lemmas.List.{map-append}
use Rattle.std.specs.Map.{keys_of}
use Rattle.indexmap.proofs.CallerLemmas.{insert_entry-new}
use Rattle.board_window.proofs.offers.Offers.add.Goals as goal

pub returns-in-Ok-clause-keys : goal.returns-in-Ok-clause-keys
returns-in-Ok-clause-keys c = ap keys_of (c.in-Ok.ensures.entries ∙ insert_entry-new _ c.args.self.now.boards _ _ c.requires.new) ∙ map-append _ _ _
