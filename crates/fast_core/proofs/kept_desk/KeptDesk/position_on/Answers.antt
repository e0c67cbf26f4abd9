use Rattle.std.proofs.Common.{◌≡◌, ℕ, None, false, nat_eq, List, sym, ◌∙◌}
use Rattle.std.specs.List.{find}
use Rattle.desk_model.specs.histories.History.{History}
use Rattle.desk_model.specs.boards.Boards.{is_on, links, order}
use Rattle.desk_model.specs.boards.Rank.{IsByRank}
use Rattle.fast_core.proofs.IndexLemmas.{off-nobody, off-nowhere, not-linked}
use Rattle.fast_core.proofs.kept_desk.KeptDesk.position_on.Goals as goal

-- who isn't on the board
off : (h : History) (p : ℕ) (b : List ℕ) → IsByRank h b (order h b) → false ≡ is_on h p b → None ≡ find (λ link. nat_eq link.person p) (links b 1 (order h b))
off h p b ranked out = not-linked b p (order h b) 1 (ranked.those p ∙ sym out)

pub returns-in_default : goal.returns-in_default
returns-in_default c h tells =
    off h c.args.person c.args.board.now (c.order_is_by_rank.ensures.by_rank h c.args.board.now)
    (off-nobody h c.args.person c.args.board.now (c.who_is_on_a_board_is_listed.ensures.listed h tells.legal) (c.who_is_enrolled_has_an_index.ensures.persons h)
    (sym (c.person_index.ensures h tells) ∙ c.in_default.is))

pub returns-in_default-board_index : goal.returns-in_default-board_index
returns-in_default-board_index c h tells =
    off h c.args.person c.args.board.now (c.order_is_by_rank.ensures.by_rank h c.args.board.now)
    (off-nowhere h c.args.person c.args.board.now (c.who_is_on_a_board_is_listed.ensures.listed h tells.legal) (c.who_is_enrolled_has_an_index.ensures.boards h)
    (sym (c.board_index.ensures h tells) ∙ c.in_default-board_index.is))

pub returns-then-not-is_on : goal.returns-then-not-is_on
returns-then-not-is_on c h tells =
    off h c.args.person c.args.board.now (c.order_is_by_rank.ensures.by_rank h c.args.board.now)
    (sym c.if-not-is_on.true
    ∙ c.is_on.ensures h c.args.person c.args.board.now tells.lists (sym (c.person_index.ensures h tells) ∙ c.in-Some.is) (sym (c.board_index.ensures h tells) ∙ c.in-Some-board_index.is))
