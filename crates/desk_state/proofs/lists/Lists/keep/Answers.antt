use Rattle.desk_state.specs.Words.{is_in}
use Rattle.desk_state.proofs.KeepLemmas.{refused-keep}
use Rattle.desk_state.proofs.lists.Lists.keep.Goals as goal

pub returns-in_default : goal.returns-in_default
returns-in_default c h legal next names keeps =
    let e = c.args.entry.now in
    record {
      lists = refused-keep c.args.self.now.orders.boards.items (is_in c.args.self.now.listings.words.items) h e (c.what_the_lists_rest_on.ensures h e legal next)
          c.in_default.ensures.refused keeps.lists;
      words = keeps.words;
    }
