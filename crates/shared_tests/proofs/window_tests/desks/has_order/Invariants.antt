use Rattle.std.proofs.Common.{◌≡◌}
use Rattle.shared_tests.proofs.window_tests.desks.has_order.Given as goal

abbrev pub invariant-loop-place : goal.invariant-loop-place
invariant-loop-place l =
    (goal.iterator-loop-place).can_next l.place-iterator ×
    (goal.iterator-loop-place).is_finite l.place-iterator ×
    (l.view.wall ≡ l.fn.view.wall)
