use Rattle.std.proofs.Common.{◌≡◌, ◌+◌, ◌∷◌, drop, sym, ap, ◌∙◌, arith}
use Rattle.std.proofs.lemmas.List.{at_drop_more}
use Rattle.desk_model.specs.offers.Held.{hold_end}
use Rattle.fast_core.proofs.kept_desk.KeptDesk.hold_end.Goals as goal

pub loop-board-preserved : goal.loop-board-preserved
loop-board-preserved c h p tells at =
    let codes = c.codes-board-items.result.now in
    let i = c.loop-board.board-index in
    let b = c.board-item.result in
    let next : hold_end h (drop i codes) p ≡ hold_end h (b ∷ drop (i + 1) codes) p =
    at_drop_more (λ bs. hold_end h bs p) codes i b c.loop-board-test.true ∙ ap (λ a. hold_end h (a ∷ drop (i + 1) codes) p) (sym c.board-item.is) in
    omega (arith, c.loop-board.invariant h p tells at, next, c.a_hold_is_by_boards.ensures.more h p b (drop (i + 1) codes), c.hold_by.ensures h p tells at, c.later-end.ensures)
