use Rattle.std.proofs.Common.{◌<◌, ◌≤◌, length, refl, arith, ◌∙◌}
use Rattle.std.proofs.lemmas.List.{length-set}
use Rattle.std.proofs.lemmas.Option.{slice_get_read}
use Rattle.desk_state.specs.Changes.{BecomesBy}
use Rattle.desk_state.proofs.ListLemmas.{except-less, except-past, except-touched}
use Rattle.desk_state.proofs.orders.Orders.change.Goals as goal
use Rattle.desk_state.proofs.orders.Orders.change.Goals.{then-at-len, else-at-len}

pub loop-left-init : goal.loop-left-init
loop-left-init c = (refl, λ few. except-touched c.args.cmd.now c.args.named.now c.args.word _ c.args.self.now.boards.items few c.touched-left.ensures)

pub loop-left-preserved : goal.loop-left-preserved
loop-left-preserved c =
    let i = c.first_board-index.result in
    let old = c.args.self.now.boards.items in
    let now = c.loop-left.self.boards.items in
    let becomes = BecomesBy c.args.cmd.now c.args.named.now c.args.word in
    let before = c.loop-left.invariant in
    elim c.if-at-len.branch [
      | then-at-len w ↦
          let within : i < length now = omega (arith, w.if-at-len.true, c.number-at.ensures.value, c.len.ensures, c.loop-left.self.boards.ok.0) in
          rw (w.self-is, c.number-at.ensures.value) (
            length-set now i w.change_board.new.board ∙ before.0,
            λ few. except-less becomes i c.loop-left.left _ old now w.index_mut.result.now w.change_board.new.board (before.1 few)
                c.first_board-index.ensures c.with_board-left.ensures.has
                (slice_get_read now (length now) i w.index_mut.result.now refl within (rw c.number-at.ensures.value at w.index_mut.ensures.value)) w.change_board.ensures,
          )
      | else-at-len w ↦
          let past : length old ≤ i = omega (arith, w.if-at-len.false, c.number-at.ensures.value, c.len.ensures, c.loop-left.self.boards.ok.0, before.0) in
          rw (w.self-is) (before.0, λ few. except-past becomes i c.loop-left.left _ old now (before.1 few) c.with_board-left.ensures.has past)
    ]
