use Rattle.std.proofs.Common.{◌≡◌}
use Rattle.shared_tests.proofs.window_tests.is_said.Given as goal

abbrev pub invariant-loop-place : goal.invariant-loop-place
invariant-loop-place l = l.view.wall ≡ l.fn.view.wall
