use Rattle.std.proofs.Common.{◌≤◌, length, ◌∙◌, arith}
use Rattle.desk_model.specs.histories.Register.{persons}
use Rattle.desk_state.proofs.DoneLemmas.{room, done-keep}
use Rattle.desk_state.proofs.lists.Lists.change.Goals as goal

pub returns : goal.returns
returns c h e legal next is names keeps =
    let told = c.args.cmd.now in
    let n = c.args.named.now in
    let words = c.args.self.now.listings.words.items in
    let laws = c.what_the_lists_rest_on.ensures h e legal next in
    let few : length (persons h) ≤ length words = omega (arith, keeps.lists.few_persons, keeps.words) in
    record {
      lists = done-keep h e told n words c.change-2.new.self.words.items c.of-word.result c.args.self.now.orders.boards.items c.change.new.self.boards.items laws is names keeps.lists
          c.of-word.ensures c.change.ensures.many (c.change.ensures.each (omega (arith, keeps.lists.many))) (c.change-2.ensures.each (room h e told n (length words) laws is names few keeps.lists.few_boards));
      words = c.change-2.ensures.many ∙ keeps.words;
    }
