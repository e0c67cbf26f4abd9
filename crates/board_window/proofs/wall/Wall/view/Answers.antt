use Rattle.board_window.proofs.PublishedLemmas.{admits, tells, learns}
use Rattle.board_window.proofs.wall.Wall.view.Goals as goal

pub reader-requires : goal.reader-requires
reader-requires c = admits

pub tell-told-requires : goal.tell-told-requires
tell-told-requires c = tells _ _

pub learn-requires-clause-rule : goal.learn-requires-clause-rule
learn-requires-clause-rule c = learns _ _ _ _
