use Rattle.std.proofs.Common.{◌≡◌}
use Rattle.shared_tests.proofs.window_tests.all_is_said.Given as goal

abbrev pub invariant-loop-text : goal.invariant-loop-text
invariant-loop-text l = l.view.wall ≡ l.fn.view.wall
