use Rattle.std.proofs.Common.{◌≡◌}
use Rattle.std.specs.Box.{box_value}
use Rattle.shared_tests.proofs.window_tests.desks.book.Given as goal

abbrev pub invariant-loop-stated : goal.invariant-loop-stated
invariant-loop-stated l = (box_value l.book.desk.core).kept.opening ≡ l.fn.opening
