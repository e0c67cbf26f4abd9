use Rattle.board_window.proofs.PublishedLemmas.{enters}
use Rattle.board_window.proofs.view.View.look.Goals as goal

pub enter_as-requires : goal.enter_as-requires
enter_as-requires c x = enters _ _ x
