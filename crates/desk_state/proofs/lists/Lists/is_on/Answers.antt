use Rattle.std.proofs.Common.{ap, ◌∙◌}
use Rattle.desk_model.specs.histories.Register.{boards}
use Rattle.desk_state.specs.Words.{has_board}
use Rattle.desk_state.proofs.IndexedLemmas.{board-at}
use Rattle.desk_state.proofs.lists.Lists.is_on.Goals as goal

pub returns : goal.returns
returns c h p b keeps indexed at =
    c.has_board.ensures ∙ ap (λ w. has_board w c.args.board) c.of.ensures ∙ keeps.lists.on p c.args.person c.args.board b indexed (board-at (boards h) b c.args.board at)
