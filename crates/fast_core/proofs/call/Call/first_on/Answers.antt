use Rattle.std.proofs.Common.{Some, sym, ap, ◌∙◌}
use Rattle.std.specs.List.{find}
use Rattle.desk_model.specs.boards.Boards.{links}
use Rattle.desk_model.specs.offers.Bars.{is_free}
use Rattle.fast_core.proofs.IndexLemmas.{order-nowhere}
use Rattle.fast_core.proofs.SearchLemmas.{call-first, call-steps, found-some, found-none}
use Rattle.fast_core.proofs.call.Call.first_on.Goals as goal

pub returns-in_default-clause-first : goal.returns-in_default-clause-first
returns-in_default-clause-first g c h tells asked searched =
    let none = order-nowhere h c.args.board.now (c.who_is_on_a_board_is_listed.ensures.empty h tells.legal) (c.who_is_enrolled_has_an_index.ensures.boards h)
    (sym (c.board_index.ensures h tells) ∙ c.in_default.is) in
    sym (ap (λ ps. find (λ link. is_free h c.args.self.now.asked.now.moment c.args.self.now.asked.now.job.now link.person) (links c.args.board.now 1 ps)) none)

pub returns-in-None-clause-first : goal.returns-in-None-clause-first
returns-in-None-clause-first g c h tells asked searched =
    found-none c.args.board.now c.first.result _ c.in-None.is
    (call-first c.who_is_kept_on_a_board_is_on_it.ensures _ h _ _ c.boards-boards.result.now c.args.board.now c.number-at.result c.first.result (c.who_is_not_ready_is_barred.ensures.tour h) (c.who_is_not_ready_is_barred.ensures.rest h) tells asked searched
    c.boards-boards.ensures (sym (c.board_index.ensures h tells) ∙ c.in-Some.is ∙ ap Some (sym c.number-at.ensures.value)) c.first.ensures.first)

pub returns-in-None-clause-steps : goal.returns-in-None-clause-steps
returns-in-None-clause-steps g c h tells asked searched =
    call-steps c.who_is_kept_on_a_board_is_on_it.ensures _ h _ _ c.boards-boards.result.now c.args.board.now c.number-at.result c.args.steps.now c.first.new.steps (c.who_is_not_ready_is_barred.ensures.tour h) (c.who_is_not_ready_is_barred.ensures.rest h) tells asked searched
    c.boards-boards.ensures (sym (c.board_index.ensures h tells) ∙ c.in-Some.is ∙ ap Some (sym c.number-at.ensures.value)) (c.order_is_by_rank.ensures.once h c.args.board.now) c.first.ensures.cost

pub returns-in-Some-first-clause-first : goal.returns-in-Some-first-clause-first
returns-in-Some-first-clause-first g c h tells asked searched =
    found-some c.args.board.now c.first.result c.in-Some-first.found _ c.in-Some-first.is
    (call-first c.who_is_kept_on_a_board_is_on_it.ensures _ h _ _ c.boards-boards.result.now c.args.board.now c.number-at.result c.first.result (c.who_is_not_ready_is_barred.ensures.tour h) (c.who_is_not_ready_is_barred.ensures.rest h) tells asked searched
    c.boards-boards.ensures (sym (c.board_index.ensures h tells) ∙ c.in-Some.is ∙ ap Some (sym c.number-at.ensures.value)) c.first.ensures.first)

pub returns-in-Some-first-clause-steps : goal.returns-in-Some-first-clause-steps
returns-in-Some-first-clause-steps g c h tells asked searched =
    call-steps c.who_is_kept_on_a_board_is_on_it.ensures _ h _ _ c.boards-boards.result.now c.args.board.now c.number-at.result c.args.steps.now c.first.new.steps (c.who_is_not_ready_is_barred.ensures.tour h) (c.who_is_not_ready_is_barred.ensures.rest h) tells asked searched
    c.boards-boards.ensures (sym (c.board_index.ensures h tells) ∙ c.in-Some.is ∙ ap Some (sym c.number-at.ensures.value)) (c.order_is_by_rank.ensures.once h c.args.board.now) c.first.ensures.cost
