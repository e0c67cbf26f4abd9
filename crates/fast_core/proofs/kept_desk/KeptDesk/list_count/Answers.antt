use Rattle.std.proofs.Common.{sym, ◌∙◌}
use Rattle.fast_core.proofs.IndexLemmas.{boards_of-nobody}
use Rattle.fast_core.proofs.kept_desk.KeptDesk.list_count.Goals as goal

pub returns-in-None : goal.returns-in-None
returns-in-None c h tells =
    boards_of-nobody h c.args.person (c.who_is_on_a_board_is_listed.ensures.listed h tells.legal) (c.who_is_enrolled_has_an_index.ensures.persons h)
    (sym (c.person_index.ensures h tells) ∙ c.in-None.is)
