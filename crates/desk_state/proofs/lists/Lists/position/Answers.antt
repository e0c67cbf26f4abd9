use Rattle.std.proofs.Common.{◌≡◌, subst, nat_eq, sym, ap, ◌∙◌}
use Rattle.std.specs.List.{find}
use Rattle.pool_board.specs.Members.{persons}
use Rattle.desk_model.specs.boards.Boards.{links, order}
use Rattle.desk_model.specs.boards.Rank.{IsOnce}
use Rattle.desk_state.specs.Words.{is_in}
use Rattle.desk_state.proofs.ReadLemmas.{members-are, found}
use Rattle.desk_state.proofs.lists.Lists.position.Goals as goal

pub returns : goal.returns
returns c h b keeps at =
    let board = c.in_ok-board.field-0.now in
    let are : persons board.members ≡ order h b = members-are c.args.self.now.orders.boards.items (is_in c.args.self.now.listings.words.items) h b c.args.board board keeps.lists at c.in_ok-board.ensures in
    ap (λ ps. find (λ link. nat_eq link.person c.args.person) (links b 1 ps)) (sym are)
    ∙ found b c.args.person (persons board.members) c.position.result (subst IsOnce (sym are) (c.order_is_by_rank.ensures.once h b)) c.position.ensures.at c.position.ensures.listed
