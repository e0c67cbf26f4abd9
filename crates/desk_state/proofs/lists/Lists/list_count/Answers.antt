use Rattle.desk_state.proofs.ReadLemmas.{boards-counted}
use Rattle.desk_state.proofs.lists.Lists.list_count.Goals as goal

pub returns : goal.returns
returns c h p keeps indexed = boards-counted c.args.self.now.orders.boards.items c.args.self.now.listings.words.items h p c.args.person c.of.result keeps.lists indexed c.of.type_inv c.of.ensures
