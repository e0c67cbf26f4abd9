use Rattle.std.proofs.Common.{◌<◌, length, get_or, set, ap, ◌∙◌, subst}
use Rattle.std.proofs.lemmas.List.Edits.{map_over_more}
use Rattle.board_window.specs.Becomes.{becomes}
use Rattle.board_window.proofs.boards.follow_all.Goals as goal

pub loop-board-preserved : goal.loop-board-preserved
loop-board-preserved c =
    let old = c.args.boards.now.items in
    let xs = c.loop-board.board-items in
    let i = c.loop-board.board-index in
    let x = c.board-item.result in
    let within : i < length old = subst (λ n. i < n) (ap length c.deref_mut-board-items.ensures.value) c.loop-board-test.true in
    ap (set xs i) c.follow.ensures
    ∙ map_over_more (becomes c.args.from.now c.args.cmd.now) old xs i (get_or xs i x) within c.loop-board.invariant (ap (get_or xs i) c.board-item.is)
