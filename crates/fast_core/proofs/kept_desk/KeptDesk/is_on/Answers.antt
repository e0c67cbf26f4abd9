use Rattle.std.proofs.Common.{sym, ◌∙◌}
use Rattle.fast_core.proofs.IndexLemmas.{off-nobody, off-nowhere}
use Rattle.fast_core.proofs.kept_desk.KeptDesk.is_on.Goals as goal

pub returns-in_default : goal.returns-in_default
returns-in_default c h tells =
    off-nobody h c.args.person c.args.board.now (c.who_is_on_a_board_is_listed.ensures.listed h tells.legal) (c.who_is_enrolled_has_an_index.ensures.persons h)
    (sym (c.person_index.ensures h tells) ∙ c.in_default.is)

pub returns-in_default-board_index : goal.returns-in_default-board_index
returns-in_default-board_index c h tells =
    off-nowhere h c.args.person c.args.board.now (c.who_is_on_a_board_is_listed.ensures.listed h tells.legal) (c.who_is_enrolled_has_an_index.ensures.boards h)
    (sym (c.board_index.ensures h tells) ∙ c.in_default-board_index.is)

pub returns : goal.returns
returns c h tells =
    c.is_on.ensures h c.args.person c.args.board.now tells.lists (sym (c.person_index.ensures h tells) ∙ c.in-Some.is)
    (sym (c.board_index.ensures h tells) ∙ c.in-Some-board_index.is)
