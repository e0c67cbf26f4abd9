use Rattle.std.proofs.Common.{◌≡◌, ◌≤◌, length}
use Rattle.desk_model.specs.declared.limits.TheConstants.{BOARD_LIMIT}
use Rattle.desk_state.specs.Changes.{BecomesBy}
use Rattle.desk_state.proofs.ListLemmas.{Except}
use Rattle.desk_state.proofs.orders.Orders.change.Given as goal

abbrev pub invariant-loop-left : goal.invariant-loop-left
invariant-loop-left l = (length l.self.boards.items ≡ length l.initial.self.boards.items)
    × (length l.initial.self.boards.items ≤ BOARD_LIMIT → Except l.left (BecomesBy l.cmd l.named l.word) l.initial.self.boards.items l.self.boards.items)

abbrev pub decreases-loop-left : goal.decreases-loop-left
decreases-loop-left l = l.left
