use Rattle.desk_model.specs.histories.History.{with_entry}
use Rattle.desk_model.proofs.LegalLemmas.{legal-with}
use Rattle.board_window.proofs.BoardLemmas.{boards-after}
use Rattle.board_window.proofs.laws.what_an_entry_makes_of_the_boards.Goals as goal

pub returns : goal.returns
returns c h e xs legal next are =
    boards-after h e xs (c.what_an_entry_makes_of_the_desk.ensures.comes h e) (c.what_is_done_rests_on.ensures.done h e next)
    (c.who_is_on_a_board_is_listed.ensures.empty h legal)
    (λ b. c.boards_and_chains_are_bounded.ensures.boards (with_entry h e) b (legal-with h e legal next)) are
