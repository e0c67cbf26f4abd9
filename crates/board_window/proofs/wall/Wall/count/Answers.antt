use Rattle.std.proofs.Common.{subst}
use mathlib.Core.List.{IsPrefix}
use Rattle.board_window.specs.Windows.{WallValue}
use Rattle.board_window.proofs.WallLemmas.{waiting-begins}
use Rattle.board_window.proofs.wall.Wall.count.Goals as goal

pub returns-clause-begins : goal.returns-clause-begins
returns-clause-begins c = subst (λ (w : WallValue). IsPrefix w.queued w.added) c.self.view_is (waiting-begins _ _ _ c.self.invariant.6)
