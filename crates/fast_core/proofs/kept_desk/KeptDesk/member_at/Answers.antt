use Rattle.std.proofs.Common.{◌-◌, sym, ap, ◌∙◌}
use Rattle.std.specs.List.{slice_get}
use Rattle.fast_core.proofs.IndexLemmas.{order-nowhere}
use Rattle.fast_core.proofs.kept_desk.KeptDesk.member_at.Goals as goal

pub returns-in-None : goal.returns-in-None
returns-in-None c h tells =
    sym (ap (λ ps. slice_get ps (c.args.position - 1)) (order-nowhere h c.args.board.now (c.who_is_on_a_board_is_listed.ensures.empty h tells.legal)
    (c.who_is_enrolled_has_an_index.ensures.boards h) (sym (c.board_index.ensures h tells) ∙ c.in-None.is)))
