use Rattle.std.proofs.Common.{ap, ◌∙◌, ◌-◌}
use Rattle.std.specs.List.{slice_get}
use Rattle.pool_board.specs.Members.{persons}
use Rattle.pool_board.specs.Positions.{at_position}
use Rattle.desk_state.specs.Words.{is_in}
use Rattle.desk_state.proofs.ReadLemmas.{members-are, position-tells}
use Rattle.desk_state.proofs.lists.Lists.member_at.Goals as goal

pub returns : goal.returns
returns c h b keeps at =
    let found = c.in_ok-board.field-0.now in
    c.at.ensures ∙ ap (at_position (persons found.members)) c.max.ensures ∙ position-tells (persons found.members) c.args.position
    ∙ ap (λ ps. slice_get ps (c.args.position - 1)) (members-are c.args.self.now.orders.boards.items (is_in c.args.self.now.listings.words.items) h b c.args.board found keeps.lists at c.in_ok-board.ensures)
