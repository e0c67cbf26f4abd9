use Rattle.std.proofs.Common.{◌≡◌, ◌≤◌, ℕ, [], length, vec_capacity}
use Rattle.desk_model.specs.declared.limits.TheConstants.{BOARD_LIMIT}
use Rattle.vacancy_fill.specs.Chain.{members_at}
use Rattle.desk_state.proofs.orders.Orders.new.Given as goal

abbrev pub invariant-loop-number : goal.invariant-loop-number
invariant-loop-number l = (length l.boards.items ≡ l.number) × (BOARD_LIMIT ≤ vec_capacity l.boards) × ((j : ℕ) → members_at l.boards.items j ≡ [])
